-- `uncount`: the counts are those of the addresses left. Assumes nothing.
use Rattle.steps.proofs.Counting.{Along}
use Rattle.steps.proofs.path.uncount.Given as goal

abbrev pub invariant-loop-i : goal.invariant-loop-i
invariant-loop-i l = Along l.size l.initial.w l.p l.from l.to l.i l.w
