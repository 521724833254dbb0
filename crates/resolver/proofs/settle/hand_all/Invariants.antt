-- `hand_all`: the destinations from `since` on are expanded, batch after batch. Assumes nothing.
use Rattle.resolver.proofs.SettleLoop.{Settling}
use Prim.Native.Nat.{◌-◌}
use Rattle.resolver.proofs.settle.hand_all.Given as goal

abbrev pub invariant-loop-i : goal.invariant-loop-i
invariant-loop-i l = Settling l.size l.initial.w l.r l.since l.records l.i l.w

abbrev pub decreases-loop-i : goal.decreases-loop-i
decreases-loop-i l = l.records - l.i
