-- `put_numbers` meets its contract: the numbers passed are stored. Assumes nothing.
use Rattle.report.proofs.Placed.{Putting}
use Rattle.report.proofs.merge.put_numbers.Given as goal

abbrev pub invariant-loop-i : goal.invariant-loop-i
invariant-loop-i l = Putting l.initial.report l.ns l.report l.i
