-- `level` and `parent`: a level tries its parents, and a parent may open a level with less weight left. Assumes nothing.
use Rattle.std.proofs.Common.{arith, refl}
use Rattle.std.proofs.lemmas.Result.{err_from_is_err_and}
use Rattle.tables.proofs.Shorts.{short-some}
use Rattle.enter.proofs.Lendings.{still-lent, lent-then}
use Rattle.levels.proofs.LevelLoop.{level-at-block, level-address, level-starts, going-block, going-cursor, going-asks, going-falls, going-tries, level-skips, level-passes, level-refused, level-tried, level-ends}
use Rattle.levels.proofs.ParentDeeper.{parent-shut, opens-lighter, parent-counts, parent-opens, parent-refused, parent-uncounts, parent-done}
use Rattle.levels.proofs.levels.+level_parent.Goals as goal

pub level-highest-top-requires : goal.level-highest-top-requires
level-highest-top-requires t c = level-address c.requires c.get16-last.ensures

pub level-first_cursor-at-requires : goal.level-first_cursor-at-requires
level-first_cursor-at-requires t c = level-at-block c.requires c.get16-last.ensures

pub level-loop-at-init : goal.level-loop-at-init
level-loop-at-init t c = record { lent = still-lent; going = level-starts c.requires c.get16-last.ensures c.highest-top.ensures c.first_cursor-at.ensures }

pub level-next_cursor-at-requires : goal.level-next_cursor-at-requires
level-next_cursor-at-requires t c = (going-block c.requires c.loop-at.invariant.going, going-cursor c.requires c.loop-at.invariant.going c.loop-at-test.true)

pub level-reached_then-requires : goal.level-reached_then-requires
level-reached_then-requires t c = going-asks c.requires c.loop-at.invariant.going c.loop-at-test.true

pub level-returns-then-plan-run-clause-leveled : goal.level-returns-then-plan-run-clause-leveled
level-returns-then-plan-run-clause-leveled t c =
    level-passes c.requires c.loop-at.invariant.going c.loop-at-test.true c.reached_then.ensures c.if-reached_then.true c.spend.ensures c.if-plan-run.true

pub level-parent-requires : goal.level-parent-requires
level-parent-requires t c =
    (omega (arith, c.decreases), going-tries c.requires c.loop-at.invariant.going c.loop-at-test.true c.spend.ensures c.if-plan-run.false)

pub level-loop-at-smaller-in-Continue-1 : goal.level-loop-at-smaller-in-Continue-1
level-loop-at-smaller-in-Continue-1 t c = going-falls c.requires c.loop-at.invariant.going c.loop-at-test.true c.next_cursor-at.ensures

pub level-loop-at-preserved-in-Continue-1 : goal.level-loop-at-preserved-in-Continue-1
level-loop-at-preserved-in-Continue-1 t c =
    let tried = c.in_ok-parent.ensures in
    let going = c.loop-at.invariant.going in
    record {
      lent = lent-then c.loop-at.invariant.lent tried.lent;
      going = level-tried c.requires going c.loop-at-test.true c.reached_then.ensures c.if-reached_then.true c.spend.ensures c.if-plan-run.false tried.tried c.next_cursor-at.ensures refl;
    }

pub level-returns-in_err-parent-clause-leveled : goal.level-returns-in_err-parent-clause-leveled
level-returns-in_err-parent-clause-leveled t c =
    let p = err_from_is_err_and c.from_residual.result c.from_residual.ensures.1 in
    rw (p.1, p.2)
    (level-refused c.requires c.loop-at.invariant.going c.loop-at-test.true c.reached_then.ensures c.if-reached_then.true c.spend.ensures c.if-plan-run.false
    c.in_err-parent.ensures.tried (short-some _))

pub level-loop-at-smaller : goal.level-loop-at-smaller
level-loop-at-smaller t c = going-falls c.requires c.loop-at.invariant.going c.loop-at-test.true c.next_cursor-at.ensures

pub level-loop-at-preserved : goal.level-loop-at-preserved
level-loop-at-preserved t c = record {
  lent = c.loop-at.invariant.lent;
  going = level-skips c.requires c.loop-at.invariant.going c.loop-at-test.true c.reached_then.ensures c.next_cursor-at.ensures c.if-reached_then.false;
}

pub level-returns-clause-leveled : goal.level-returns-clause-leveled
level-returns-clause-leveled t c = level-ends c.requires c.loop-at.invariant.going c.loop-at-test.false

pub parent-returns-in_err-deeper-clause-tried : goal.parent-returns-in_err-deeper-clause-tried
parent-returns-in_err-deeper-clause-tried t c =
    let p = err_from_is_err_and c.from_residual.result c.from_residual.ensures.1 in
    rw (p.1, p.2) (parent-shut c.requires c.in_err-deeper.ensures.entered refl)

pub parent-returns-in_default-clause-tried : goal.parent-returns-in_default-clause-tried
parent-returns-in_default-clause-tried t c = parent-shut c.requires (rw c.in_default.is at c.in_ok-deeper.ensures.entered) refl

pub parent-count-requires : goal.parent-count-requires
parent-count-requires t c = parent-counts c.requires (rw c.in-Some.is at c.in_ok-deeper.ensures.entered) refl

pub parent-level-requires : goal.parent-level-requires
parent-level-requires t c =
    let entered = rw c.in-Some.is at c.in_ok-deeper.ensures.entered in
    (omega (arith, c.decreases, opens-lighter c.requires entered refl), parent-opens c.requires entered refl c.count.ensures)

pub parent-returns-in_err-level-clause-tried : goal.parent-returns-in_err-level-clause-tried
parent-returns-in_err-level-clause-tried t c =
    let p = err_from_is_err_and c.from_residual-in_err-level.result c.from_residual-in_err-level.ensures.1 in
    rw (p.1, p.2) (parent-refused c.requires (rw c.in-Some.is at c.in_ok-deeper.ensures.entered) refl c.count.ensures c.in_err-level.ensures.leveled (short-some _))

pub parent-uncount-requires : goal.parent-uncount-requires
parent-uncount-requires t c =
    parent-uncounts c.requires (rw c.in-Some.is at c.in_ok-deeper.ensures.entered) refl c.count.ensures c.in_ok-level.ensures.leveled refl

pub parent-returns-clause-tried : goal.parent-returns-clause-tried
parent-returns-clause-tried t c =
    parent-done c.requires (rw c.in-Some.is at c.in_ok-deeper.ensures.entered) refl c.count.ensures c.in_ok-level.ensures.leveled refl c.uncount.ensures
