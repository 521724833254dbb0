-- `count_row`: the row is listed, or not. Assumes nothing.
use Rattle.entries.proofs.Listed.{listed-kind, count-on, count-off}
use Rattle.entries.proofs.found.Found.count_row.Goals as goal

pub returns-then-is_listed : goal.returns-then-is_listed
returns-then-is_listed c = search (count-on, listed-kind)

pub returns : goal.returns
returns c = search (count-off, listed-kind)
