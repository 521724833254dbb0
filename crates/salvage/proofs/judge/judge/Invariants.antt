-- `judge` meets its contract: what is copied so far and what is salvaged of the rest is the whole. The measure is what is left of the bytes. Assumes nothing.
use Rattle.salvage.proofs.Maps.{Judges}
use lib.ListN.{length}
use Prim.Native.Nat.{◌-◌}
use Rattle.salvage.proofs.judge.judge.Given as goal

abbrev pub invariant-loop-at : goal.invariant-loop-at
invariant-loop-at l = Judges l.archive l.maps l.at

abbrev pub decreases-loop-at : goal.decreases-loop-at
decreases-loop-at l = length l.archive - l.at
