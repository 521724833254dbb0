-- `fill` meets its contract: each way out is a law of its own. Assumes nothing.
use Rattle.inspector.proofs.FillLoop.{Filling}
use lib.ListN.{length}
use Prim.Native.Nat.{◌-◌}
use Rattle.inspector.proofs.fill.fill.Given as goal

abbrev pub invariant-loop-entry : goal.invariant-loop-entry
invariant-loop-entry l = Filling l.replay.map.now l.replay.code.now l.initial.w l.at l.w

abbrev pub decreases-loop-entry : goal.decreases-loop-entry
decreases-loop-entry l = length l.replay.map.now - l.at
