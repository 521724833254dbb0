-- `rounds`: each round starts with what the last one's records lead to. Assumes nothing.
use Prim.Native.Nat.{◌-◌}
use Rattle.resolver.proofs.RoundsLoop.{RoundsSoFar}
use Rattle.layout.specs.Buffers.{held}
use Rattle.steps.specs.Goings.{under_way}
use Rattle.enter.specs.Lent.{StillLent}
use Rattle.resolver.proofs.rounds.rounds.Given as goal

abbrev pub invariant-loop-done : goal.invariant-loop-done
invariant-loop-done l = record {
  lent : StillLent l.initial.buffers l.buffers;
  so_far : RoundsSoFar l.code l.plan (held l.initial.buffers) (under_way l.initial.run) (held l.buffers) (under_way l.run) l.since (128 - l._done);
}
