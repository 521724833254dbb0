-- `rounds`: each round starts with what the last one's records lead to. Assumes nothing.
use mathlib.Core.Path.{◌≡◌, refl}
use Prim.Native.Nat.{◌+◌, ◌-◌}
use native.Mathlib.Omega.{arith}
use Rattle.std.proofs.lemmas.Result.{err_from_is_err_and}
use Rattle.tables.proofs.Shorts.{short-some}
use Rattle.enter.proofs.Lendings.{lent-then}
use Rattle.resolver.proofs.RoundsLoop.{so-far-limit, so-far-asks, so-far-short, so_far_last, so-far-next, so-far-done, lent-but-w}
use Rattle.resolver.proofs.rounds.rounds.Goals as goal

pub returns-then-plan-run-clause-rounds : goal.returns-then-plan-run-clause-rounds
returns-then-plan-run-clause-rounds c = so-far-limit c.loop-done.invariant.so_far (λ z. omega (arith, z, c.loop-done-test.true)) c.if-plan-run.true

pub round-requires : goal.round-requires
round-requires c = so-far-asks c.loop-done.invariant.so_far c.hand_all.ensures

pub returns-in_err-round-clause-rounds : goal.returns-in_err-round-clause-rounds
returns-in_err-round-clause-rounds c =
    let p = err_from_is_err_and c.from_residual.result c.from_residual.ensures.1 in
    rw (p.1, p.2)
    (so-far-short c.loop-done.invariant.so_far c.hand_all.ensures (λ z. omega (arith, z, c.loop-done-test.true)) c.if-plan-run.false c.in_err-round.ensures.rounded (short-some _))

pub returns-then-run-records-clause-rounds : goal.returns-then-run-records-clause-rounds
returns-then-run-records-clause-rounds c =
    so_far_last c.loop-done.invariant.so_far c.hand_all.ensures (λ z. omega (arith, z, c.loop-done-test.true)) c.if-plan-run.false c.in_ok-round.ensures.rounded refl c.if-run-records.true

pub loop-done-preserved : goal.loop-done-preserved
loop-done-preserved c =
    let before = c.loop-done.invariant in
    let left : 128 - (c.loop-done._done + 1) ≡ 128 - c.loop-done._done - 1 = omega arith in
    record {
      lent = lent-then (lent-but-w before.lent refl c.hand_all.auto.w) c.in_ok-round.ensures.lent;
      so_far = rw left
          (so-far-next before.so_far c.hand_all.ensures (λ z. omega (arith, z, c.loop-done-test.true)) c.if-plan-run.false c.in_ok-round.ensures.rounded refl c.if-run-records.false);
    }

pub returns-clause-rounds : goal.returns-clause-rounds
returns-clause-rounds c = so-far-done c.loop-done.invariant.so_far (omega (arith, c.loop-done-test.false))
