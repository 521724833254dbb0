use Rattle.follow.proofs.Following.{Following}
use Rattle.follow.proofs.walk.walk.Given as goal

abbrev pub invariant-loop-i : goal.invariant-loop-i
invariant-loop-i l = Following l.finder.map.now l.code l.log l.initial.counts l.i l.stand l.counts
