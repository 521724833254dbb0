-- `to_end` meets its contract: what is left to run ends where the whole run does. Assumes nothing.
use Rattle.exec.specs.Modes.{mode_of}
use Rattle.exec.proofs.Owns.{Running}
use Rattle.exec.proofs.run.to_end.Given as goal

abbrev pub invariant-loop-instruction : goal.invariant-loop-instruction
invariant-loop-instruction l = Running (mode_of l.mode) l.code l.start l.initial.w l.end l.w l.instruction-iterator l.top
