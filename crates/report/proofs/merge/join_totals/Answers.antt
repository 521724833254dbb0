-- `join_totals` meets its contract: the places passed hold sums that fit. Assumes nothing.
use Rattle.report.proofs.Placed.{joining-on, joining-large, joining-end}
use Rattle.report.proofs.merge.join_totals.Goals as goal

pub loop-i-preserved : goal.loop-i-preserved
loop-i-preserved c = search joining-on

pub returns-in_default : goal.returns-in_default
returns-in_default c = search joining-large

pub returns : goal.returns
returns c = search joining-end
