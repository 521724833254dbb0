-- `enter`: skipped, short of P, past the weight, or followed. Assumes nothing.
use mathlib.Core.Path.{refl}
use Rattle.std.proofs.lemmas.Result.{err_from_is_err_and}
use Rattle.enter.proofs.StepsTwoAndThree.{entered-skip, entered-short, enter-strays, entered-stops, enter-following, entered-follows}
use Rattle.enter.proofs.PathEnds.{ended-in}
use Rattle.enter.proofs.enter.enter.Goals as goal

pub returns-then-skipped-clause-entered : goal.returns-then-skipped-clause-entered
returns-then-skipped-clause-entered c = entered-skip c.requires c.skipped.ensures c.if-skipped.true refl

pub returns-in_err-np-clause-entered : goal.returns-in_err-np-clause-entered
returns-in_err-np-clause-entered c =
    let p = err_from_is_err_and c.from_residual.result c.from_residual.ensures.1 in
    rw (p.1, p.2) (entered-short c.requires c.skipped.ensures c.if-skipped.false c.in_err-np.ensures)

pub landed-requires : goal.landed-requires
landed-requires c = enter-strays c.requires c.skipped.ensures c.if-skipped.false c.in_ok-np.ensures c.no_entry-entry.ensures

pub returns-in_err-landed-clause-entered : goal.returns-in_err-landed-clause-entered
returns-in_err-landed-clause-entered c =
    let p = err_from_is_err_and c.from_residual-in_err-landed.result c.from_residual-in_err-landed.ensures.1 in
    let short = c.in_err-landed.ensures in
    rw (p.1, p.2, short.same.p, short.same.t)
    (entered-stops c.requires c.skipped.ensures c.if-skipped.false c.in_ok-np.ensures c.if-level-eq0.true c.no_entry-entry.ensures short.landed.noted (ended-in short.landed))

pub returns-then-level-eq0-clause-entered : goal.returns-then-level-eq0-clause-entered
returns-then-level-eq0-clause-entered c =
    let landed = c.in_ok-landed.ensures in
    rw (landed.same.p, landed.same.t)
    (entered-stops c.requires c.skipped.ensures c.if-skipped.false c.in_ok-np.ensures c.if-level-eq0.true c.no_entry-entry.ensures landed.landed.noted (ended-in landed.landed))

pub follow-requires : goal.follow-requires
follow-requires c = enter-following c.requires c.skipped.ensures c.if-skipped.false c.in_ok-np.ensures c.if-level-eq0.false

pub returns-clause-entered : goal.returns-clause-entered
returns-clause-entered c = entered-follows c.requires c.skipped.ensures c.if-skipped.false c.in_ok-np.ensures c.if-level-eq0.false c.follow.ensures.followed
