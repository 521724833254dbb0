-- `rest` meets its contract: each way out is a law of its own. Assumes nothing.
use Rattle.exec.specs.Modes.{mode_of}
use Rattle.inspector.proofs.Rowing.{Resting}
use lib.ListN.{length}
use Prim.Native.Nat.{◌-◌}
use Rattle.inspector.proofs.list.rest.Given as goal

abbrev pub invariant-loop-wrong : goal.invariant-loop-wrong
invariant-loop-wrong l = Resting (mode_of l.replay.mode) l.replay.map.now l.replay.code.now l.from l.fn.first.behind l.fn.first.owner l.initial.w l.initial.rows l.w l.rows l.last.behind l.last.owner l.at

abbrev pub decreases-loop-wrong : goal.decreases-loop-wrong
decreases-loop-wrong l = length l.replay.map.now - l.last.behind
