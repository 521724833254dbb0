-- `copy`: after i turns the first i bytes of the source are stored. Assumes nothing.
use native.Mathlib.Omega.{arith}
use borrow.Author.Rules.{rules}
use Rattle.lent.proofs.Stored.{stored-none}
use Rattle.lent.proofs.Runs.{copy_more, copy_done}
use Rattle.lent.proofs.run.copy.Goals as goal

pub loop-i-init : goal.loop-i-init
loop-i-init c = (search rules, stored-none _ _ (omega arith))

pub loop-i-preserved : goal.loop-i-preserved
loop-i-preserved c = (search rules, search copy_more)

pub returns : goal.returns
returns c = search copy_done
