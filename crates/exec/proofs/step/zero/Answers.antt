-- `zero` meets its contract: the symbol by the mode. Assumes nothing.
use Rattle.exec.proofs.Turns.{zero-other, zero-known}
use Rattle.exec.proofs.step.zero.Goals as goal

pub returns-in-Plain : goal.returns-in-Plain
returns-in-Plain c = search zero-other

pub returns-in-KnownZero : goal.returns-in-KnownZero
returns-in-KnownZero c = search zero-known
