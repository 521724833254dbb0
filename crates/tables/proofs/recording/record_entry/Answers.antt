-- `record_entry`: it is known, a room is short, or it is made. Assumes nothing.
use Rattle.std.proofs.lemmas.Result.{err_from_is_err_and}
use Rattle.tables.proofs.Lookup.{inside}
use Rattle.tables.proofs.Noted.{ready-seek, ready-adds, recorded_known, recorded-short, recorded-made}
use Rattle.tables.proofs.Shorts.{short-some}
use Rattle.tables.proofs.recording.record_entry.Goals as goal

pub found-requires-clause-keyed : goal.found-requires-clause-keyed
found-requires-clause-keyed c = record { inside = inside (ready-seek c.requires c.sum-sum.ensures) _ }

pub returns-then-found : goal.returns-then-found
returns-then-found c = recorded_known c.requires c.unwrap_or.ensures c.found.ensures c.if-found.true

pub returns-in_err-shortage : goal.returns-in_err-shortage
returns-in_err-shortage c =
    let p = err_from_is_err_and c.from_residual.result c.from_residual.ensures.1 in
    rw (p.1, p.2) (recorded-short c.requires c.unwrap_or.ensures c.found.ensures c.in_err-shortage.ensures c.if-found.false (short-some _))

pub add_record-requires : goal.add_record-requires
add_record-requires c = ready-adds c.requires c.sum-sum.ensures c.in_ok-shortage.ensures

pub returns : goal.returns
returns c = recorded-made c.requires c.unwrap_or.ensures c.found.ensures c.in_ok-shortage.ensures c.if-found.false c.add_record.ensures
