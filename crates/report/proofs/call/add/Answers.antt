-- `add` meets its contract: with no head 12, behind it as the pass says, and then as the totals say. Assumes nothing.
use Rattle.std.proofs.lemmas.Result.{err_from_is_err_and}
use Rattle.report.proofs.Merged.{add-headless, add-headed, add-told}
use Rattle.report.proofs.call.add.Goals as goal

pub returns-in_err-head : goal.returns-in_err-head
returns-in_err-head c =
    let p = err_from_is_err_and c.from_residual.result c.from_residual.ensures.1 in
    rw (p.1, p.2) (search (c.in_err-head.was, add-headless))

pub entries-requires : goal.entries-requires
entries-requires c = search (c.in_ok-head.was, add-headed)

pub returns : goal.returns
returns c = search (c.in_ok-head.was, c.in_ok-counts.was, add-told)
