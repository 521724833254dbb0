-- `push_zero` meets its contract: the symbol is pushed. Assumes nothing.
use Rattle.exec.proofs.Working.{becomes-read}
use Rattle.exec.proofs.step.push_zero.Goals as goal

pub returns : goal.returns
returns c = search becomes-read
