use Rattle.follow.proofs.Edging.{spread-low}
use Rattle.follow.proofs.edges.spread.Goals as goal

pub returns : goal.returns
returns c = search spread-low
