-- `push_value` meets its contract: the value that the bytes spell is pushed. Assumes nothing.
use Rattle.exec.proofs.Turns.{becomes-value}
use Rattle.exec.proofs.step.push_value.Goals as goal

pub returns : goal.returns
returns c = search becomes-value
