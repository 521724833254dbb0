-- `merge` meets its contract: three ways to 16, and the report anew. Assumes nothing.
use Rattle.std.proofs.lemmas.Result.{err_from_is_err_and}
use Rattle.report.proofs.Merged.{told-short, told-large, told-crowded, told-anew}
use Rattle.report.proofs.merge.merge.Goals as goal

pub returns-then-report-lt-BYTES : goal.returns-then-report-lt-BYTES
returns-then-report-lt-BYTES c = search told-short

pub returns-in_err-join_totals : goal.returns-in_err-join_totals
returns-in_err-join_totals c =
    let p = err_from_is_err_and c.from_residual.result c.from_residual.ensures.1 in
    rw (p.1, p.2) (search (c.in_err-join_totals.was, told-large))

pub returns-in_default : goal.returns-in_default
returns-in_default c = search (c.in_ok-join_totals.was, told-crowded)

pub returns : goal.returns
returns c = search (c.in_ok-join_totals.was, told-anew)
