use Rattle.parents.proofs.PrepareLoop.{Walk}
use Rattle.exec.specs.Modes.{mode_of}
use Rattle.parents.proofs.prepare.Given as goal

abbrev pub invariant-loop-place : goal.invariant-loop-place
invariant-loop-place l = Walk (mode_of l.mode) l.code l.initial.w l.end l.blocks l.w l.place l.many
