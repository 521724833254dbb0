-- `raise`: a higher one stays, or a is stored. Assumes nothing.
use Rattle.reachable.proofs.Raising.{raise-stays, raise-sets}
use Rattle.reachable.proofs.high.raise.Goals as goal

pub returns-then-start-get16 : goal.returns-then-start-get16
returns-then-start-get16 c = search raise-stays

pub returns : goal.returns
returns c = search raise-sets
