-- `put_row` meets its contract: each way out is a law of its own. Assumes nothing.
use Rattle.inspector.proofs.Rowing.{row-none, row_put}
use Rattle.inspector.proofs.list.put_row.Goals as goal

pub returns-then-left-lt16 : goal.returns-then-left-lt16
returns-then-left-lt16 c = search row-none

pub returns : goal.returns
returns c = search row_put
