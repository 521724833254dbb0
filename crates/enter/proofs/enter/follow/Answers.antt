-- `follow`: short of S, met before, short of T, or on by the symbol. Assumes nothing.
use mathlib.Core.Path.{refl}
use Rattle.std.proofs.lemmas.Result.{err_from_is_err_and}
use Rattle.tables.proofs.Shorts.{short-some}
use Rattle.enter.proofs.StepsFourToSix.{follow-composing}
use Rattle.enter.proofs.FollowWays.{followed-short, followed-met, followed-full, follow-meets, follow-arriving, followed-arrived}
use Rattle.enter.proofs.enter.follow.Goals as goal

pub take_state-requires : goal.take_state-requires
take_state-requires c = follow-composing c.requires

pub returns-in_err-taken-clause-followed : goal.returns-in_err-taken-clause-followed
returns-in_err-taken-clause-followed c =
    let p = err_from_is_err_and c.from_residual.result c.from_residual.ensures.1 in
    rw (p.1, p.2) (followed-short c.requires c.in_err-taken.ensures)

pub meet-requires : goal.meet-requires
meet-requires c = follow-meets c.requires c.in_ok-taken.ensures c.seen-seen.ensures

pub returns-in_err-more-clause-followed : goal.returns-in_err-more-clause-followed
returns-in_err-more-clause-followed c =
    let p = err_from_is_err_and c.from_residual-in_err-more.result c.from_residual-in_err-more.ensures.1 in
    rw (p.1, p.2) (followed-full c.requires c.in_ok-taken.ensures c.seen-seen.ensures c.in_err-more.ensures refl (short-some _))

pub returns-in_default-clause-followed : goal.returns-in_default-clause-followed
returns-in_default-clause-followed c = followed-met c.requires c.in_ok-taken.ensures c.seen-seen.ensures (rw c.in_default.is at c.in_ok-more.ensures) refl

pub arrive-requires : goal.arrive-requires
arrive-requires c = follow-arriving c.requires c.in_ok-taken.ensures c.seen-seen.ensures (rw c.in-Some.is at c.in_ok-more.ensures) refl refl

pub returns-clause-followed : goal.returns-clause-followed
returns-clause-followed c =
    let came = c.arrive.ensures in
    rw (came.same.p, came.same.t)
    (followed-arrived c.requires c.in_ok-taken.ensures c.seen-seen.ensures (rw c.in-Some.is at c.in_ok-more.ensures) refl refl came.arrived)
