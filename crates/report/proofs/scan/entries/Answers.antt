-- `entries` meets its contract: what is counted so far and what is still to come are the whole, and the reader's scan judges it. The measure is what is
-- left of the bytes. Assumes nothing.
use Rattle.std.proofs.lemmas.Result.{err_from_is_err_and}
use Rattle.report.proofs.Scanned.{none-is, pass-start, pass-less, pass-sound, pass_on, pass-bad, pass-end}
use Rattle.report.proofs.scan.entries.Goals as goal

pub loop-scan-init : goal.loop-scan-init
loop-scan-init c = search (pass-start, none-is)

pub returns : goal.returns
returns c = search pass-end

pub returns-in_err-scan : goal.returns-in_err-scan
returns-in_err-scan c =
    let p = err_from_is_err_and c.from_residual.result c.from_residual.ensures.1 in
    rw (p.1, p.2) (search (c.in_err-scan.was, pass-bad))

pub unreachable-requires : goal.unreachable-requires
unreachable-requires c = search (c.in_ok-scan.was, pass-sound)

pub loop-scan-smaller : goal.loop-scan-smaller
loop-scan-smaller c = search (c.in_ok-scan.was, pass-less)

pub loop-scan-preserved : goal.loop-scan-preserved
loop-scan-preserved c = search (c.in_ok-scan.was, pass_on)
