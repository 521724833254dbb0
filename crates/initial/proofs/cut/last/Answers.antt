-- `last` meets its contract: a block is open and kept, or is open beyond the last instruction, or none is. Assumes nothing.
use Rattle.initial.proofs.Cutting.{last-kept, last-past, last-shut}
use Rattle.initial.proofs.cut.last.Goals as goal

pub returns-then-start-prev : goal.returns-then-start-prev
returns-then-start-prev c = search last-kept

pub returns-else-start-prev : goal.returns-else-start-prev
returns-else-start-prev c = search last-past

pub returns-in_default : goal.returns-in_default
returns-in_default c = search (last-shut, c.in_default.not-Opened)
