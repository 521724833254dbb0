-- `from_parts` meets its contract: each tag by a law of cells. Assumes nothing.
use Rattle.state.proofs.Cells.{tagged-before, tagged-constant, tagged-jumpdest, tagged-other}
use Rattle.state.proofs.sym.StackSym.from_parts.Goals as goal

pub returns-in-0 : goal.returns-in-0
returns-in-0 c = search tagged-before

pub returns-in-1 : goal.returns-in-1
returns-in-1 c = search tagged-constant

pub returns-in-2 : goal.returns-in-2
returns-in-2 c = search tagged-jumpdest

pub returns-in_default : goal.returns-in_default
returns-in_default c = search tagged-other
