-- `evm::walk::next_at` meets its contract: each way out is a law of the step. Assumes nothing.
use Rattle.evm.proofs.Steps.{next-whole, next-none}
use Rattle.evm.proofs.walk.next_at.Goals as goal

pub returns-in-Some : goal.returns-in-Some
returns-in-Some c = search next-whole

pub returns-in-None : goal.returns-in-None
returns-in-None c = search next-none
