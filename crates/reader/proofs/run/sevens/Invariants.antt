-- `sevens` meets its contract: those counted and those still to come are the whole run. The measure is what is left of the bytes. Assumes nothing.
use Prim.Native.Nat.{◌-◌}
use lib.ListN.{length}
use Rattle.reader.proofs.Onward.{Counting}
use Rattle.reader.proofs.run.sevens.Given as goal

abbrev pub invariant-loop-lead : goal.invariant-loop-lead
invariant-loop-lead l = Counting l.map l.at l.count l.to

abbrev pub decreases-loop-lead : goal.decreases-loop-lead
decreases-loop-lead l = length l.map - l.to
