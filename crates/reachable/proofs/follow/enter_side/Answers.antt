-- `enter_side`: a side is taken, or there is none. Assumes nothing.
use Rattle.reachable.proofs.Following.{side-going, side-none}
use Rattle.reachable.proofs.follow.enter_side.Goals as goal

pub enter-requires : goal.enter-requires
enter-requires c = search side-going

pub returns-in-None : goal.returns-in-None
returns-in-None c = search side-none
