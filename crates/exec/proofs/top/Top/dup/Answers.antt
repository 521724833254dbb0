-- `dup` meets its contract: the symbol that was read is pushed. Assumes nothing.
use Rattle.exec.proofs.Working.{becomes-read}
use Rattle.exec.proofs.top.Top.dup.Goals as goal

pub returns : goal.returns
returns g c = rw (← c.requires.0) (search becomes-read)
