-- `graph`: the blocks are merged, the records rewritten, and what is reached flagged. Assumes nothing.
use Rattle.graph.proofs.Finished.{graphed}
use Rattle.graph.proofs.Asking.{notes-asked, rewrites-asked, prunes-asked}
use Rattle.graph.proofs.whole.graph.Goals as goal

pub merge_all-requires : goal.merge_all-requires
merge_all-requires c = search notes-asked

pub rewrite-requires : goal.rewrite-requires
rewrite-requires c = search rewrites-asked

pub prune-requires : goal.prune-requires
prune-requires c = search prunes-asked

pub returns : goal.returns
returns c = search graphed
