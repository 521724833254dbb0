-- `follow`: the true side, and then the false side. Assumes nothing.
use Rattle.reachable.proofs.Following.{going-to, going-other, followed}
use Rattle.reachable.proofs.follow.follow.Goals as goal

pub enter_side-more-requires : goal.enter_side-more-requires
enter_side-more-requires c = search going-to

pub enter_side-requires : goal.enter_side-requires
enter_side-requires c = search going-other

pub returns : goal.returns
returns c = search followed
