-- `cut` meets its contract: what is written and what is still to be cut are the whole. The measure is what is left of the code. Assumes nothing.
use Prim.Native.Nat.{◌-◌}
use lib.ListN.{length}
use Rattle.initial.proofs.Cutting.{Going}
use Rattle.initial.proofs.cut.cut.Given as goal

abbrev pub invariant-loop-pc : goal.invariant-loop-pc
invariant-loop-pc l = Going l.code l.initial.w l.w l.walking l.prev l.at

abbrev pub decreases-loop-pc : goal.decreases-loop-pc
decreases-loop-pc l = length l.code - l.at
