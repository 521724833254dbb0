-- `is_static_jump` meets its contract: each way out is a law of what the instruction before pushed. Assumes nothing.
use Rattle.initial.proofs.Jumping.{static-none, static-follow, static-some}
use Rattle.initial.proofs.jump.is_static_jump.Goals as goal

pub returns-then-op-lt-PUSH1 : goal.returns-then-op-lt-PUSH1
returns-then-op-lt-PUSH1 c = search static-none

pub argument_at-value-requires : goal.argument_at-value-requires
argument_at-value-requires c = search static-follow

pub returns : goal.returns
returns c = search static-some
