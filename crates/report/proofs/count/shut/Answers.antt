-- `shut` meets its contract: one more at the place that the block at hand has. Assumes nothing.
use native.Mathlib.Omega.{arith}
use Rattle.spec.specs.Report.{join}
use Rattle.report.specs.declared.count.Open.TheVariants.{Static, NoneYet, Only, Several}
use Rattle.report.proofs.Counted.{with_open}
use Rattle.report.proofs.count.shut.Goals as goal

pub returns-in-Static : goal.returns-in-Static
unfolding join
returns-in-Static c = with_open Static (cc) (omega arith)

pub returns-in-NoneYet : goal.returns-in-NoneYet
unfolding join
returns-in-NoneYet c = with_open NoneYet (cc) (omega arith)

pub returns-in-Only : goal.returns-in-Only
unfolding join
returns-in-Only c = with_open (Only _) c.in-Only.is (omega arith)

pub returns-in-Several : goal.returns-in-Several
unfolding join
returns-in-Several c = with_open Several (cc) (omega arith)
