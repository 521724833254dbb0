-- `follow_edges`: the rows of the place, and those of the witness. Assumes nothing.
use Rattle.reachable.proofs.Pruned.{witnesses-going, followed-edges}
use Rattle.reachable.proofs.pruning.follow_edges.Goals as goal

pub follow_rows-requires : goal.follow_rows-requires
follow_rows-requires c = search witnesses-going

pub returns : goal.returns
returns c = search followed-edges
