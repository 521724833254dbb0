-- `jumped` meets its contract: the top is read, and words are taken. Assumes nothing.
use Rattle.exec.proofs.Turns.{jumps-by}
use Rattle.exec.proofs.step.jumped.Goals as goal

pub returns : goal.returns
returns g c = rw (← c.requires.0) (search jumps-by)
