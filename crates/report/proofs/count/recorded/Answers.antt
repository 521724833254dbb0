-- `recorded` meets its contract: a record with or without destination, and its path. Assumes nothing.
use native.Mathlib.Omega.{arith}
use Rattle.spec.specs.Report.{join}
use Rattle.report.proofs.Counted.{with-record, nowhere-adds, found-adds}
use Rattle.report.proofs.count.recorded.Goals as goal

pub returns-in-None : goal.returns-in-None
unfolding join
returns-in-None c = with-record 10 (nowhere-adds _ c.in-None.is) (omega arith) c.longer.ensures

pub returns-in-Some : goal.returns-in-Some
unfolding join
returns-in-Some c = with-record 9 (found-adds _ c.in-Some.is) (omega arith) c.longer-in-Some.ensures
