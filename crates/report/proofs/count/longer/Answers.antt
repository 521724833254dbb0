-- `longer` meets its contract: the longer of two lengths. Assumes nothing.
use native.Mathlib.Omega.{arith}
use Rattle.spec.specs.Report.{join}
use Rattle.report.proofs.Counted.{with-path}
use Rattle.report.proofs.count.longer.Goals as goal

pub returns : goal.returns
unfolding join
returns c = with-path (omega arith)
