-- `get_cell` meets its contract: a symbol is read from its tag and its number. Assumes nothing.
use Rattle.state.proofs.Cells.{got}
use Rattle.state.proofs.cell.get_cell.Goals as goal

pub returns : goal.returns
returns c = search got
