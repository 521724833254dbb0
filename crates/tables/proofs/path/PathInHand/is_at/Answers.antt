-- `is_at`: what is left to compare decides the whole. Assumes nothing.
use Rattle.tables.proofs.Addrs.{path-differs, path-again, path-same}
use Rattle.tables.proofs.path.PathInHand.is_at.Goals as goal

pub returns-then-get16 : goal.returns-then-get16
returns-then-get16 c = search path-differs

pub loop-i-preserved : goal.loop-i-preserved
loop-i-preserved c = path-again _ _ _ _ c.loop-i.invariant c.loop-i-test.true c.get16.ensures c.get16-in-loop-i.ensures c.if-get16.false

pub returns : goal.returns
returns c = search path-same
