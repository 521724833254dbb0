-- `add_row`: the row is listed, or not. Assumes nothing.
use Rattle.entries.proofs.Listed.{listed-kind, row_on, row-off}
use Rattle.entries.proofs.found.Found.add_row.Goals as goal

pub returns-then-is_listed : goal.returns-then-is_listed
returns-then-is_listed c = search (row_on, listed-kind)

pub returns-else-is_listed : goal.returns-else-is_listed
returns-else-is_listed c = search (row-off, listed-kind)
