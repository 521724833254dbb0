use Rattle.parents.proofs.Leaves.{turn-wrote}
use Rattle.parents.proofs.taker.take_turn.Goals as goal

pub returns : goal.returns
returns c = search turn-wrote
