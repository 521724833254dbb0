-- `enter_all`: the seeds are taken, one after another. Assumes nothing.
use Rattle.reachable.proofs.SeedsLoop.{Taking}
use Rattle.reachable.proofs.closure.enter_all.Given as goal

abbrev pub invariant-loop-seed : goal.invariant-loop-seed
invariant-loop-seed l = Taking l.size l.initial.w l.seeds l.when l.seed-index l.w l.count
