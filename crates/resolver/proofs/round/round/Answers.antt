-- `round`: the blocks that are left of those that take turns, in the loop. Assumes nothing.
use mathlib.Core.Path.{refl}
use native.Mathlib.Omega.{arith}
use Rattle.std.proofs.lemmas.Result.{err_from_is_err_and}
use Rattle.tables.proofs.Shorts.{short-some}
use Rattle.enter.proofs.Lendings.{still-lent, lent-then}
use Rattle.resolver.proofs.RoundLoop.{round-begins, round-row, round-address, round-turns, round-skips, round-over, round-refused, round-goes-on, round-done}
use Rattle.resolver.proofs.round.round.Goals as goal

pub loop-left-init : goal.loop-left-init
loop-left-init c = record { lent = still-lent; going = round-begins c.requires refl }

pub taker_at-start-requires : goal.taker_at-start-requires
taker_at-start-requires c = round-row c.loop-left.invariant.going (λ z. omega (arith, z, c.loop-left-test.true)) c.requires

pub is_marked-requires : goal.is_marked-requires
is_marked-requires c = round-address c.loop-left.invariant.going (λ z. omega (arith, z, c.loop-left-test.true)) c.taker_at-start.ensures c.requires

pub turn-requires : goal.turn-requires
turn-requires c = round-turns c.loop-left.invariant.going (λ z. omega (arith, z, c.loop-left-test.true)) c.taker_at-start.ensures c.requires c.if-run-plan.true

pub returns-in_err-turn-clause-rounded : goal.returns-in_err-turn-clause-rounded
returns-in_err-turn-clause-rounded c =
    let p = err_from_is_err_and c.from_residual.result c.from_residual.ensures.1 in
    rw (p.1, p.2)
    (round-refused c.loop-left.invariant.going (λ z. omega (arith, z, c.loop-left-test.true)) c.taker_at-start.ensures c.is_marked.ensures c.if-is_marked.true c.if-run-plan.true
    c.in_err-turn.ensures.turned (short-some _))

pub loop-left-preserved-in-Continue-1 : goal.loop-left-preserved-in-Continue-1
loop-left-preserved-in-Continue-1 c = record {
  lent = lent-then c.loop-left.invariant.lent c.in_ok-turn.ensures.lent;
  going =
      round-goes-on c.loop-left.invariant.going (λ z. omega (arith, z, c.loop-left-test.true)) c.taker_at-start.ensures c.is_marked.ensures c.if-is_marked.true c.if-run-plan.true
      c.in_ok-turn.ensures.turned refl c.requires;
}

pub loop-left-preserved-else-run-plan : goal.loop-left-preserved-else-run-plan
loop-left-preserved-else-run-plan c = record {
  lent = c.loop-left.invariant.lent;
  going = round-over c.loop-left.invariant.going (λ z. omega (arith, z, c.loop-left-test.true)) (omega (arith, c.if-run-plan.false));
}

pub loop-left-preserved : goal.loop-left-preserved
loop-left-preserved c = record {
  lent = c.loop-left.invariant.lent;
  going = round-skips c.loop-left.invariant.going (λ z. omega (arith, z, c.loop-left-test.true)) c.taker_at-start.ensures c.is_marked.ensures c.if-is_marked.false;
}

pub returns-clause-rounded : goal.returns-clause-rounded
returns-clause-rounded c = round-done c.loop-left.invariant.going (omega (arith, c.loop-left-test.false))
