-- `copy_up`: with i bytes left to move, those past them, as they were at entry, are stored. Assumes nothing.
use borrow.Author.Rules.{rules}
use Rattle.lent.proofs.Runs.{up_none, up_more, up_done}
use Rattle.lent.proofs.run.copy_up.Goals as goal

pub loop-i-init : goal.loop-i-init
loop-i-init c = (search rules, search up_none)

pub loop-i-preserved : goal.loop-i-preserved
loop-i-preserved c = (search rules, search up_more)

pub returns : goal.returns
returns c = search up_done
