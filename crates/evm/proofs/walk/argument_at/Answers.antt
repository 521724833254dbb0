-- `evm::walk::argument_at` meets its contract: one byte or two at once, or by the loop. Assumes nothing.
use Rattle.evm.proofs.Spelling.{spelled-one, spelled-two}
use Rattle.evm.proofs.walk.argument_at.Goals as goal

pub returns-then-count-eq1 : goal.returns-then-count-eq1
returns-then-count-eq1 c = search (spelled-one, c.type_inv.code)

pub returns-then-count-eq2 : goal.returns-then-count-eq2
returns-then-count-eq2 c = search (spelled-two, c.type_inv.code)
