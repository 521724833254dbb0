-- `reach`: 0 is expanded over a wiped W. Assumes nothing.
use Rattle.reachable.proofs.Expanding.{reach-expands, reach-done}
use Rattle.reachable.proofs.closure.reach.Goals as goal

pub expand-requires : goal.expand-requires
expand-requires c = search reach-expands

pub returns : goal.returns
returns c = search reach-done
