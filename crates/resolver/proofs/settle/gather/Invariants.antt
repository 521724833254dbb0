-- `gather`: the records are gone through until the batch is full or none is left. Assumes nothing.
use Rattle.resolver.proofs.GatherLoop.{Gathering}
use Rattle.resolver.proofs.settle.gather.Given as goal

abbrev pub invariant-loop-i : goal.invariant-loop-i
invariant-loop-i l = Gathering l.r l.from l.records l.many l.i l.batch
