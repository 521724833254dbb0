-- `expand`: what waits is followed, until nothing waits. Each turn flags more or waits for less. Assumes nothing.
use Prim.Native.Nat.{◌+◌, ◌-◌, ◌*◌}
use lib.ListN.{length}
use Rattle.reachable.specs.Marks.{flagged}
use Rattle.reachable.proofs.Expanding.{Extending}
use Rattle.reachable.proofs.closure.expand.Given as goal

abbrev pub invariant-loop-count : goal.invariant-loop-count
invariant-loop-count l = Extending l.size l.when l.initial.w l.w l.count

abbrev pub decreases-loop-count : goal.decreases-loop-count
decreases-loop-count l = 2 * (l.size + 1 - length (flagged l.w l.size)) + l.count
