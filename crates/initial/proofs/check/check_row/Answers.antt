-- `check_row` meets its contract: no block, a Jump, a Jumpi, and all else, which stays. Assumes nothing.
use Rattle.initial.proofs.Checking.{row-empty, empty-starts, some-starts, row-jump, row-jumpi, row_same}
use Rattle.initial.proofs.check.check_row.Goals as goal

pub returns-in_default : goal.returns-in_default
returns-in_default c = record { checked = search row-empty; starts = search empty-starts }

pub returns-in-Jump : goal.returns-in-Jump
returns-in-Jump c = record { checked = search row-jump; starts = search some-starts }

pub returns-in-Jumpi : goal.returns-in-Jumpi
returns-in-Jumpi c = record { checked = search row-jumpi; starts = search some-starts }

pub returns-in_default-block : goal.returns-in_default-block
returns-in_default-block c = record { checked = search (row_same, c.in_default-block.not-Jump, c.in_default-block.not-Jumpi); starts = search some-starts }
