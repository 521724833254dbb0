-- `raise_side`: of a side, or there is none. Assumes nothing.
use Rattle.reachable.proofs.Raising.{raises-side, raised-no-side}
use Rattle.reachable.proofs.high.raise_side.Goals as goal

pub raise-requires-clause-address : goal.raise-requires-clause-address
raise-requires-clause-address c = search raises-side

pub returns-in_default : goal.returns-in_default
returns-in_default c = search raised-no-side
