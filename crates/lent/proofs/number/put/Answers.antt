-- `put`: the lowest bytes are stored first. Assumes nothing.
use native.Mathlib.Omega.{arith}
use Rattle.lent.proofs.Stored.{writing-none, writing-more, written}
use Rattle.lent.proofs.number.put.Goals as goal

pub loop-i-init : goal.loop-i-init
loop-i-init g c = search (writing-none, arith)

pub loop-i-preserved : goal.loop-i-preserved
loop-i-preserved g c = search writing-more

pub returns : goal.returns
returns g c = search written
