use Rattle.follow.proofs.Following.{bumped-so}
use Rattle.follow.proofs.walk.bump.Goals as goal

pub returns : goal.returns
returns c = search bumped-so
