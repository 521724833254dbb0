-- `evm::walker::WalkerIterator::next` ends: each instruction leaves less of the code. Assumes nothing.
use Rattle.std.proofs.Common.{rules}
use Rattle.evm.proofs.Steps.{less-left}
use Rattle.evm.proofs.walker.WalkerIterator.next.Goals as goal

pub returns-clause-goes : goal.returns-clause-goes
returns-clause-goes c = let l = less-left _ _ c.step_at.ensures c.in_ok-found.was in search rules
