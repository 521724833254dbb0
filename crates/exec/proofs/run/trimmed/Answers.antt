-- `trimmed` meets its contract: what is left to trim ends where the whole does. Assumes nothing.
use Rattle.exec.proofs.Trims.{passed-none, passed-more, passed-stop, passed-all}
use Rattle.exec.proofs.run.trimmed.Goals as goal

pub loop-i-init : goal.loop-i-init
loop-i-init c = search passed-none

pub loop-i-preserved : goal.loop-i-preserved
loop-i-preserved c = search passed-more

pub returns-then-not-joined : goal.returns-then-not-joined
returns-then-not-joined c = search passed-stop

pub returns : goal.returns
returns c = search passed-all
