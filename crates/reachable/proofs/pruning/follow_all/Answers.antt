-- `follow_all`: the sides, and the rows. Assumes nothing.
use Rattle.reachable.proofs.Pruned.{edges-going, followed-all}
use Rattle.reachable.proofs.pruning.follow_all.Goals as goal

pub follow_edges-requires : goal.follow_edges-requires
follow_edges-requires c = search edges-going

pub returns : goal.returns
returns c = search followed-all
