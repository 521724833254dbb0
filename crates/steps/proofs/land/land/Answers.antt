-- `land`: a room is short, there is no destination, the record is new and its destination is marked, or nothing is. Assumes nothing.
use mathlib.Core.Path.{refl}
use Rattle.std.proofs.lemmas.Result.{err_from_is_err_and}
use Rattle.steps.proofs.Lands.{lands-address, lands_within, landed-nowhere, landed-new, landed-old}
use Rattle.steps.proofs.land.land.Goals as goal

pub mark_found-requires : goal.mark_found-requires
mark_found-requires c = let asks = c.requires in
    let recorded = c.in_ok-after.ensures in
    record { address = lands-address asks recorded c.in-Some.is; sides_within = lands_within asks recorded }

pub returns-in_err-after : goal.returns-in_err-after
returns-in_err-after c =
    let p = err_from_is_err_and c.from_residual.result c.from_residual.ensures.1 in
    rw (p.1, p.2) (landed-old c.in_err-after.ensures refl)

pub returns-in_default : goal.returns-in_default
returns-in_default c = landed-nowhere c.requires c.in_ok-after.ensures c.in_default.is

pub returns-then-after-counts : goal.returns-then-after-counts
returns-then-after-counts c = landed-new c.requires c.in_ok-after.ensures c.in-Some.is c.if-after-counts.true c.mark_found.ensures

pub returns-else-after-counts : goal.returns-else-after-counts
returns-else-after-counts c = landed-old c.in_ok-after.ensures c.if-after-counts.false
