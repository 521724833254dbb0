use Rattle.std.proofs.Common.{◌≡◌}
use Rattle.follow.proofs.edges.insert.Given as goal

abbrev pub invariant-loop-i : goal.invariant-loop-i
invariant-loop-i l = l.work ≡ l.initial.work
