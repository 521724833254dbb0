-- `make_static`: the row is written with the end that it has. Assumes nothing.
use Rattle.parents.proofs.Leaves.{static-wrote}
use Rattle.parents.proofs.settle.make_static.Goals as goal

pub returns : goal.returns
returns c = search static-wrote
