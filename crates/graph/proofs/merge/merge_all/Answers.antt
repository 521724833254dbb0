-- `merge_all`: the blocks are merged by the notes of the records. Assumes nothing.
use Rattle.graph.proofs.Merging.{noted-merges, merged-all}
use Rattle.graph.proofs.merge.merge_all.Goals as goal

pub merge-requires : goal.merge-requires
merge-requires c = search noted-merges

pub returns : goal.returns
returns c = search merged-all
