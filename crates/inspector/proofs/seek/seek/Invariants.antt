-- `seek` meets its contract: each way out is a law of its own. Assumes nothing.
use Rattle.inspector.proofs.Seeking.{Seeking}
use lib.ListN.{length}
use Prim.Native.Nat.{◌-◌}
use Rattle.inspector.proofs.seek.seek.Given as goal

abbrev pub invariant-loop-entry : goal.invariant-loop-entry
invariant-loop-entry l = Seeking l.map l.to l.from l.start l.at l.mine

abbrev pub decreases-loop-entry : goal.decreases-loop-entry
decreases-loop-entry l = length l.map - l.at
