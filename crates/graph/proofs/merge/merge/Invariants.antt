-- `merge`: the blocks of the first i records are merged. Assumes nothing.
use Rattle.graph.proofs.Merging.{Merging}
use Rattle.graph.proofs.merge.merge.Given as goal

abbrev pub invariant-loop-row : goal.invariant-loop-row
invariant-loop-row l = Merging l.size l.records l.r l.initial.w l.w l.row
