-- `gcd` meets its contract: a turn leaves the greatest common divisor as it is, and lowers the second number. Assumes nothing.
use mathlib.Core.Path.{◌≡◌}
use Rattle.spec.specs.Report.{gcd}
use Rattle.report.proofs.share.gcd.Given as goal

abbrev pub invariant-loop-y : goal.invariant-loop-y
invariant-loop-y l = gcd l.x l.y ≡ gcd l.first l.second

abbrev pub decreases-loop-y : goal.decreases-loop-y
decreases-loop-y l = l.y
