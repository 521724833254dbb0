-- `is_at`: what is left to compare decides the whole. Assumes nothing.
use Rattle.tables.specs.Addrs.{Left}
use Rattle.tables.proofs.path.PathInHand.is_at.Given as goal

abbrev pub invariant-loop-i : goal.invariant-loop-i
invariant-loop-i l = Left l.self.p.now l.self.np l.q l.at l.i
