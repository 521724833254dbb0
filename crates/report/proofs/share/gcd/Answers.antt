-- `gcd` meets its contract: a turn leaves the greatest common divisor as it is, and lowers the second number. Assumes nothing.
use Rattle.report.proofs.Shares.{gcd-on, gcd-end}
use Rattle.report.proofs.share.gcd.Goals as goal

pub loop-y-preserved : goal.loop-y-preserved
loop-y-preserved c = search gcd-on

pub returns : goal.returns
returns c = search gcd-end
