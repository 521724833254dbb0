-- `push_pc` meets its contract: the value is pushed. Assumes nothing.
use Rattle.exec.proofs.Working.{becomes-read}
use Rattle.exec.proofs.step.push_pc.Goals as goal

pub returns : goal.returns
returns c = search becomes-read
