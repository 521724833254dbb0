-- `round`: the blocks that are left of those that take turns, in the loop. Assumes nothing.
use Rattle.layout.specs.Buffers.{held}
use Rattle.steps.specs.Goings.{under_way}
use Rattle.enter.specs.Lent.{StillLent}
use Rattle.resolver.proofs.RoundLoop.{Going}
use Rattle.resolver.proofs.round.round.Given as goal

abbrev pub invariant-loop-left : goal.invariant-loop-left
invariant-loop-left l = record {
  lent : StillLent l.initial.buffers l.buffers;
  going : Going l.code l.plan (held l.initial.buffers) (under_way l.initial.run) l.by (held l.buffers) (under_way l.run) l.left;
}
