-- `evm::walk::step_at` meets its contract: each way out is a law of the step. Assumes nothing.
use Rattle.evm.proofs.Steps.{step_past, step-one, step-short, step-whole}
use Rattle.evm.proofs.walk.step_at.Goals as goal

pub returns-then-code-at : goal.returns-then-code-at
returns-then-code-at c = search step_past

pub returns-then-not-is_push : goal.returns-then-not-is_push
returns-then-not-is_push c = search step-one

pub returns-then-is_whole : goal.returns-then-is_whole
returns-then-is_whole c = search step-whole

pub returns-else-is_whole : goal.returns-else-is_whole
returns-else-is_whole c = search step-short
