-- `entries` meets its contract: each way out is a law of its own. Assumes nothing.
use Rattle.exec.specs.Modes.{mode_of}
use Rattle.inspector.proofs.Showing.{Looking}
use lib.ListN.{length}
use Prim.Native.Nat.{◌-◌}
use Rattle.inspector.proofs.entries.entries.Given as goal

abbrev pub invariant-loop-entry : goal.invariant-loop-entry
invariant-loop-entry l = Looking (mode_of l.replay.mode) l.replay.map.now l.replay.code.now l.from l.start l.block l.initial.w l.at l.owner l.w

abbrev pub decreases-loop-entry : goal.decreases-loop-entry
decreases-loop-entry l = length l.replay.map.now - l.at
