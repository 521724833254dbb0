-- `put_line`: the digits, and the line feed. Assumes nothing.
use Rattle.map.proofs.Hexes.{line-end}
use Rattle.map.proofs.lines.put_line.Goals as goal

pub returns : goal.returns
returns c = search line-end
