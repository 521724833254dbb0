-- `numbers` meets its contract: the places passed hold a report's first numbers. Assumes nothing.
use Rattle.report.proofs.Placed.{Read}
use Rattle.report.proofs.merge.numbers.Given as goal

abbrev pub invariant-loop-i : goal.invariant-loop-i
invariant-loop-i l = Read l.report l.ns l.i
