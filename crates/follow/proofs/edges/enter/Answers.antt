use Rattle.follow.proofs.Edging.{enter-is}
use Rattle.follow.proofs.edges.enter.Goals as goal

pub returns : goal.returns
returns c = search enter-is
