-- `alike`: what is left after the fours so far decides the whole. Assumes nothing.
use Rattle.std.proofs.Common.{◌*◌}
use Rattle.tables.specs.Addrs.{Left}
use Rattle.tables.proofs.path.PathInHand.alike.Given as goal

abbrev pub invariant-loop-i : goal.invariant-loop-i
invariant-loop-i l = Left l.self.p.now l.self.np l.q l.at (4 * l.i)
