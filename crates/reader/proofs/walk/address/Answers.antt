-- `address` meets its contract: the two bytes at its place. Assumes nothing.
use Rattle.reader.proofs.Paths.{addressed}
use Rattle.reader.proofs.walk.address.Goals as goal

pub returns : goal.returns
returns c = search addressed
