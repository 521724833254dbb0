-- `alike`: what is left after the fours so far decides the whole. Assumes nothing.
use Rattle.tables.proofs.Addrs.{left-fours}
use Rattle.tables.proofs.path.PathInHand.alike.Goals as goal

pub loop-i-preserved : goal.loop-i-preserved
loop-i-preserved c = search left-fours
