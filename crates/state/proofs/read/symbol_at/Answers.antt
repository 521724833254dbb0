-- `symbol_at` meets its contract: within the cells, or past them. Assumes nothing.
use Rattle.state.proofs.States.{symbol-inside, symbol-below, symbol-fits}
use Rattle.state.proofs.read.symbol_at.Goals as goal

pub returns-then-position-cells : goal.returns-then-position-cells
returns-then-position-cells c = search symbol-inside

pub overflow_add-result : goal.overflow_add-result
overflow_add-result c = record { fits = search symbol-fits }

pub returns : goal.returns
returns c = search symbol-below
