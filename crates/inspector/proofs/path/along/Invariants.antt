-- `along` meets its contract: each way out is a law of its own. Assumes nothing.
use Rattle.exec.specs.Modes.{mode_of}
use Rattle.inspector.proofs.Passing.{Passed}
use Rattle.inspector.proofs.path.along.Given as goal

abbrev pub invariant-loop-place : goal.invariant-loop-place
invariant-loop-place l = Passed (mode_of l.replay.mode) l.replay.map.now l.replay.code.now l.initial.w l.path l.first l.initial.found l.place l.last l.found l.w
