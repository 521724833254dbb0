-- `rewrite`: the first i records are rewritten. Assumes nothing.
use borrow.Author.Rules.{rules}
use Rattle.graph.proofs.Rewriting.{rewrite-start, rewrite-row, rewrite-turn, rewrite-done}
use Rattle.graph.proofs.rewrite.rewrite.Goals as goal

pub loop-row-init : goal.loop-row-init
loop-row-init c = search rewrite-start

pub rewrite_row-requires : goal.rewrite_row-requires
rewrite_row-requires c = search rewrite-row

pub loop-row-preserved : goal.loop-row-preserved
loop-row-preserved c = search rewrite-turn

pub shape_of-r : goal.shape_of-r
shape_of-r c = search rules

pub returns : goal.returns
returns c = search rewrite-done
