-- `at_jumpdest` meets its contract: at its block's start, and past it. Assumes nothing.
use Rattle.initial.proofs.Jumping.{jumpdest-own, jumpdest-past}
use Rattle.initial.proofs.turn.at_jumpdest.Goals as goal

pub returns-then-start-pc : goal.returns-then-start-pc
returns-then-start-pc c = search jumpdest-own

pub returns : goal.returns
returns c = search jumpdest-past
