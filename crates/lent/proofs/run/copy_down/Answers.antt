-- `copy_down`: after i turns the first i bytes, as they were at entry, are stored. Assumes nothing.
use native.Mathlib.Omega.{arith}
use borrow.Author.Rules.{rules}
use Rattle.lent.proofs.Stored.{stored-none}
use Rattle.lent.proofs.Runs.{down-more, copy_done}
use Rattle.lent.proofs.run.copy_down.Goals as goal

pub loop-i-init : goal.loop-i-init
loop-i-init c = (search rules, stored-none _ _ (omega arith))

pub loop-i-preserved : goal.loop-i-preserved
loop-i-preserved c = (search rules, search down-more)

pub returns : goal.returns
returns c = search copy_done
