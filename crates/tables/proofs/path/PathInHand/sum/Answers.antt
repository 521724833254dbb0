-- `sum`: the sums so far, with the addresses left, are the whole. Assumes nothing.
use Rattle.std.proofs.Common.{rules}
use Rattle.tables.proofs.Addrs.{sum-again, sum_done}
use Rattle.tables.proofs.path.PathInHand.sum.Goals as goal

pub loop-i-preserved : goal.loop-i-preserved
loop-i-preserved c = (search rules, search sum-again)

pub returns : goal.returns
returns c = search sum_done
