-- `follow_from`: what waits is followed, until nothing waits, as `expand` does. Assumes nothing.
use Prim.Native.Nat.{◌+◌, ◌-◌, ◌*◌}
use lib.ListN.{length}
use Rattle.reachable.specs.Marks.{flagged}
use Rattle.reachable.proofs.Pruned.{GoingOn}
use Rattle.reachable.proofs.pruning.follow_from.Given as goal

abbrev pub invariant-loop-count : goal.invariant-loop-count
invariant-loop-count l = GoingOn l.size l.rows l.r l.initial.w l.w l.count l.flags

abbrev pub decreases-loop-count : goal.decreases-loop-count
decreases-loop-count l = 2 * (l.size + 1 - length (flagged l.w l.size)) + l.count
