-- `rest` meets its contract: what is left to judge ends where the whole does. The measure is what is left of the bytes. Assumes nothing.
use Rattle.std.proofs.lemmas.Result.{err_from_is_err_and}
use Rattle.reader.proofs.Resting.{scan-on, scan-less, scan-bad, scan-last}
use Rattle.reader.proofs.scan.rest.Goals as goal

pub returns-in_err-scan : goal.returns-in_err-scan
returns-in_err-scan c =
    let p = err_from_is_err_and c.from_residual.result c.from_residual.ensures.1 in
    rw (p.1, p.2) (search (c.in_err-scan.was, scan-bad))

pub loop-scan-smaller : goal.loop-scan-smaller
loop-scan-smaller c = search (c.in_ok-scan.was, scan-less)

pub loop-scan-preserved : goal.loop-scan-preserved
loop-scan-preserved c = search (c.in_ok-scan.was, scan-on)

pub returns : goal.returns
returns c = search scan-last
