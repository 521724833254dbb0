-- `rewrite`: the first i records are rewritten. Assumes nothing.
use Rattle.graph.proofs.Rewriting.{Rewriting}
use Rattle.graph.proofs.rewrite.rewrite.Given as goal

abbrev pub invariant-loop-row : goal.invariant-loop-row
invariant-loop-row l = Rewriting l.records l.w l.initial.r l.q l.r l.row
