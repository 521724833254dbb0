-- `same_state` meets its contract. Assumes nothing.
use Rattle.state.proofs.Comparing.{compare-none, compare-asks, compare-more, compare-stop, compare-done}
use Rattle.state.proofs.same.same_state.Goals as goal

pub loop-i-init : goal.loop-i-init
loop-i-init c = search compare-none

pub same_cell-requires : goal.same_cell-requires
same_cell-requires c = search compare-asks

pub loop-i-preserved : goal.loop-i-preserved
loop-i-preserved c = search compare-more

pub returns-then-not-same_cell : goal.returns-then-not-same_cell
returns-then-not-same_cell c = search compare-stop

pub returns : goal.returns
returns c = search compare-done
