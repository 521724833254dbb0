-- `entries` meets its contract: the scan goes over the first map's own entries, and judges as the reader does. The measure is what is left of that map.
-- Assumes nothing.
use Rattle.std.proofs.lemmas.Result.{err_from_is_err_and}
use Rattle.salvage.proofs.Firsts.{owned-start, owned-over, owned-on, owned-less, owned-bad}
use Rattle.salvage.proofs.first.entries.Goals as goal

pub loop-scan-init : goal.loop-scan-init
loop-scan-init c = search owned-start

pub returns-in_err-scan : goal.returns-in_err-scan
returns-in_err-scan c =
    let p = err_from_is_err_and c.from_residual.result c.from_residual.ensures.1 in
    rw (p.1, p.2) (search (c.in_err-scan.was, owned-bad))

pub loop-scan-smaller : goal.loop-scan-smaller
loop-scan-smaller c = search (c.in_ok-scan.was, owned-less)

pub loop-scan-preserved : goal.loop-scan-preserved
loop-scan-preserved c = search (c.in_ok-scan.was, owned-on)

pub returns : goal.returns
returns c = search owned-over
