-- `turn`: the laws of a turn, which ask for the way that it went: the run, the first level in place, and what it did. Assumes nothing.
use mathlib.Core.Path.{refl}
use native.Mathlib.Omega.{arith}
use Rattle.std.proofs.lemmas.Result.{err_from_is_err_and}
use Rattle.tables.proofs.Shorts.{short-some}
use Rattle.resolver.proofs.TurnDone.{turn-runs, turn-few, turn-places, turn-opens, turn-short-p, turn-short-s, leveling, turn-refused, turn-uncounts, turn-forgets, turn-done}
use Rattle.resolver.proofs.turn.turn.Goals as goal

pub returns-then-plan-eq0-clause-turned : goal.returns-then-plan-eq0-clause-turned
returns-then-plan-eq0-clause-turned c = turn-short-p c.if-plan-eq0.true refl

pub own_state-own-requires : goal.own_state-own-requires
own_state-own-requires c = turn-runs c.requires

pub overflow_add-run : goal.overflow_add-run
overflow_add-run c = let a = c.requires in omega (arith, a.idle.tables.within.fits_s, a.idle.tables.within.most_s, turn-few a c.own_state-own.ensures, a.idle.planned.lent_w.short)

pub returns-then-plan-run-clause-turned : goal.returns-then-plan-run-clause-turned
returns-then-plan-run-clause-turned c = turn-short-s c.if-plan-eq0.false c.own_state-own.ensures c.if-plan-run.true refl

pub first_level-first-requires : goal.first_level-first-requires
first_level-first-requires c = turn-places c.requires c.if-plan-eq0.false c.own_state-own.ensures c.if-plan-run.false

pub level-requires : goal.level-requires
level-requires c = turn-opens c.requires c.if-plan-eq0.false c.own_state-own.ensures c.if-plan-run.false c.first_level-first.ensures c.begun.ensures

pub returns-in_err-level-clause-turned : goal.returns-in_err-level-clause-turned
returns-in_err-level-clause-turned c =
    let p = err_from_is_err_and c.from_residual.result c.from_residual.ensures.1 in
    rw (p.1, p.2) (turn-refused
    (leveling c.if-plan-eq0.false c.own_state-own.ensures c.if-plan-run.false c.first_level-first.ensures c.begun.ensures c.in_err-level.ensures.leveled refl) (short-some _))

pub uncount-requires : goal.uncount-requires
uncount-requires c = turn-uncounts
    (leveling c.if-plan-eq0.false c.own_state-own.ensures c.if-plan-run.false c.first_level-first.ensures c.begun.ensures c.in_ok-level.ensures.leveled refl) c.requires refl

pub forget-requires : goal.forget-requires
forget-requires c = turn-forgets
    (leveling c.if-plan-eq0.false c.own_state-own.ensures c.if-plan-run.false c.first_level-first.ensures c.begun.ensures c.in_ok-level.ensures.leveled refl) c.requires refl

pub returns-clause-turned : goal.returns-clause-turned
returns-clause-turned c = turn-done
    (leveling c.if-plan-eq0.false c.own_state-own.ensures c.if-plan-run.false c.first_level-first.ensures c.begun.ensures c.in_ok-level.ensures.leveled refl)
    refl c.uncount.ensures c.forget.ensures c.ended.ensures
