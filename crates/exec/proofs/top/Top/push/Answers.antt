-- `push` meets its contract: a cell before the others. Assumes nothing.
use Rattle.exec.proofs.Working.{becomes-push}
use Rattle.exec.proofs.top.Top.push.Goals as goal

pub returns : goal.returns
returns c = search becomes-push
