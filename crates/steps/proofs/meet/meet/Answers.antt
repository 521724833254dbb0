-- `meet`: T has no room, it was met, or it is new. Assumes nothing.
use Rattle.std.proofs.lemmas.Result.{err_from_is_err_and}
use Rattle.steps.proofs.Meets.{met-roomless, met-again, met-new}
use Rattle.steps.proofs.meet.meet.Goals as goal

pub returns-then-plan-eq0 : goal.returns-then-plan-eq0
returns-then-plan-eq0 c = search met-roomless

pub returns-then-find_row : goal.returns-then-find_row
returns-then-find_row c = search met-again

pub returns-in_err-after : goal.returns-in_err-after
returns-in_err-after c =
    let p = err_from_is_err_and c.from_residual.result c.from_residual.ensures.1 in
    rw (p.1, p.2) (met-new c.requires c.find_row.ensures c.if-find_row.false c.in_err-after.ensures)

pub returns : goal.returns
returns c = met-new c.requires c.find_row.ensures c.if-find_row.false c.in_ok-after.ensures
