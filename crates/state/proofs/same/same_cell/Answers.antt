-- `same_cell` meets its contract. Assumes nothing.
use Rattle.state.proofs.Comparing.{cells-differ, cells-decide}
use Rattle.state.proofs.same.same_cell.Goals as goal

pub returns-then-get64 : goal.returns-then-get64
returns-then-get64 c = search cells-differ

pub returns : goal.returns
returns c = search cells-decide
