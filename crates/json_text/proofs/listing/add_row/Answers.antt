-- `add_row`: the row is listed, or not. Assumes nothing.
use Rattle.entries.proofs.Listed.{listed-kind}
use Rattle.json_text.proofs.Walked.{row-far, row_on, row-off}
use Rattle.json_text.proofs.listing.add_row.Goals as goal

pub add_way-requires : goal.add_way-requires
add_way-requires c = search row-far

pub returns-then-is_listed : goal.returns-then-is_listed
returns-then-is_listed c = search (row_on, listed-kind)

pub returns-else-is_listed : goal.returns-else-is_listed
returns-else-is_listed c = search (row-off, listed-kind)
