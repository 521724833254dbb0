-- `prune`: all linked, and what is reached from 0. Assumes nothing.
use Rattle.reachable.proofs.Linked.{pruned}
use Rattle.reachable.proofs.pruning.prune.Goals as goal

pub returns : goal.returns
returns c = search pruned
