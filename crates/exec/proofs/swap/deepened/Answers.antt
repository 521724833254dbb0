-- `deepened` meets its contract: there are cells enough, or they are moved and others spelled out below them. Assumes nothing.
use Rattle.exec.proofs.Swaps.{deepen-not, deepen-more}
use Rattle.exec.proofs.swap.deepened.Goals as goal

pub returns-then-cells-top : goal.returns-then-cells-top
returns-then-cells-top c = search deepen-not

pub returns : goal.returns
returns c = search deepen-more
