-- `turn` meets its contract: each way out keeps what is written and what is still to be cut together. Assumes nothing.
use Rattle.initial.proofs.Taking.{turn-goes, turn-closes, turn-found, turn-waits, turn-ended}
use Rattle.initial.proofs.cut.turn.Goals as goal

pub returns-in-Goes : goal.returns-in-Goes
returns-in-Goes c = search turn-goes

pub returns-in-Closes : goal.returns-in-Closes
returns-in-Closes c = search turn-closes

pub returns-then-op-eq-JUMPDEST : goal.returns-then-op-eq-JUMPDEST
returns-then-op-eq-JUMPDEST c = search turn-found

pub returns-else-op-eq-JUMPDEST : goal.returns-else-op-eq-JUMPDEST
returns-else-op-eq-JUMPDEST c = search turn-waits

pub returns-in-Ended : goal.returns-in-Ended
returns-in-Ended c = search turn-ended
