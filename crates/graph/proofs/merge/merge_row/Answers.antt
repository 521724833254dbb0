-- `merge_row`: another kind, no note or several, and one destination. Assumes nothing.
use Rattle.graph.proofs.Merging.{row_other, row-none, row_one}
use Rattle.graph.proofs.merge.merge_row.Goals as goal

pub returns-then-not-is_dynamic_jump : goal.returns-then-not-is_dynamic_jump
returns-then-not-is_dynamic_jump c = search row_other

pub returns-in_default : goal.returns-in_default
returns-in_default c = search row-none

pub returns : goal.returns
returns c = search row_one
