-- `lowest` meets its contract. Assumes nothing.
use Rattle.report.proofs.Shares.{gcd-over-0}
use Rattle.report.proofs.share.lowest.Goals as goal

pub nonzero_div-result : goal.nonzero_div-result
nonzero_div-result c = search gcd-over-0

pub nonzero_div-result-2 : goal.nonzero_div-result-2
nonzero_div-result-2 c = search gcd-over-0
