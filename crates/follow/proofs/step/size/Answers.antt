use Rattle.follow.proofs.Moving.{size_is}
use Rattle.follow.proofs.step.size.Goals as goal

pub returns : goal.returns
returns c = search size_is
