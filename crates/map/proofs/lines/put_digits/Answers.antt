-- `put_digits`: one after the other. Assumes nothing.
use Rattle.map.proofs.Hexes.{hex-byte}
use Rattle.map.proofs.lines.put_digits.Goals as goal

pub returns : goal.returns
returns c = search hex-byte
