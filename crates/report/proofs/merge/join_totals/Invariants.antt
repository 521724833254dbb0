-- `join_totals` meets its contract: the places passed hold sums that fit. Assumes nothing.
use Rattle.report.proofs.Placed.{Joining}
use Rattle.report.proofs.merge.join_totals.Given as goal

abbrev pub invariant-loop-i : goal.invariant-loop-i
invariant-loop-i l = Joining l.report l.initial.ns l.ns l.i
