-- `read` meets its contract: within the cells, or past them. Assumes nothing.
use Rattle.exec.proofs.Working.{read-inside, read_past}
use Rattle.exec.proofs.top.Top.read.Goals as goal

pub returns-then-depth-self : goal.returns-then-depth-self
returns-then-depth-self c = search read-inside

pub returns : goal.returns
returns c = search read_past
