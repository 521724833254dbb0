-- `enter_all`: the seeds are taken, one after another. Assumes nothing.
use Rattle.reachable.proofs.SeedsLoop.{take-start, take-going, take-turn}
use Rattle.reachable.proofs.closure.enter_all.Goals as goal

pub loop-seed-init : goal.loop-seed-init
loop-seed-init c = search take-start

pub enter-count-requires : goal.enter-count-requires
enter-count-requires c = search take-going

pub loop-seed-preserved : goal.loop-seed-preserved
loop-seed-preserved c = search take-turn
