-- `sum`: the sums so far, with the addresses left, are the whole. Assumes nothing.
use Rattle.std.proofs.Common.{◌≡◌, ◌+◌, ◌-◌, ◌≤◌}
use Rattle.tables.specs.Addrs.{addrs, turns, path_sum}
use Rattle.tables.proofs.path.PathInHand.sum.Given as goal

abbrev pub invariant-loop-i : goal.invariant-loop-i
invariant-loop-i l = (l.i ≤ l.self.np) × (turns l.first l.second l.third l.fourth (addrs l.self.p.now (0 + l.i) (l.self.np - l.i)) ≡ path_sum (addrs l.self.p.now 0 l.self.np))
