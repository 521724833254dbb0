-- `check` meets its contract: the rows before a are checked and the starts of their blocks are listed, all else is as it was, and none is passed over that holds a block. The measure is the rows left. Assumes nothing.
use Prim.Native.Nat.{◌+◌, ◌-◌}
use lib.ListN.{length}
use Rattle.initial.proofs.Checking.{Checking}
use Rattle.initial.proofs.check.check.Given as goal

abbrev pub invariant-loop-start : goal.invariant-loop-start
invariant-loop-start l = Checking l.code l.initial.w l.w l.start l.many

abbrev pub decreases-loop-start : goal.decreases-loop-start
decreases-loop-start l = length l.code + 1 - l.start
