-- `pops` meets its contract: within the cells, or past them. Assumes nothing.
use Rattle.exec.proofs.Working.{pops-inside, pops-past}
use Rattle.exec.proofs.top.Top.pops.Goals as goal

pub returns-then-words-self : goal.returns-then-words-self
returns-then-words-self c = search pops-inside

pub returns : goal.returns
returns c = search pops-past
