-- `trimmed` meets its contract: what is left to trim ends where the whole does. Assumes nothing.
use Rattle.exec.proofs.Trims.{Passed}
use Rattle.exec.proofs.run.trimmed.Given as goal

abbrev pub invariant-loop-i : goal.invariant-loop-i
invariant-loop-i l = Passed l.w l.at l.count l.base l.i
