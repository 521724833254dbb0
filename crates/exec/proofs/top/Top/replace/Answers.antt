-- `replace` meets its contract: words are taken, and then a symbol is pushed. Assumes nothing.
use Rattle.exec.proofs.Working.{free-popped, replaced}
use Rattle.exec.proofs.top.Top.replace.Goals as goal

pub push-requires : goal.push-requires
push-requires c = search free-popped

pub returns : goal.returns
returns c = search replaced
