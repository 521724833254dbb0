-- `numbers` meets its contract: the places passed hold a report's first numbers. Assumes nothing.
use Rattle.report.proofs.Placed.{read-on}
use Rattle.report.proofs.merge.numbers.Goals as goal

pub loop-i-preserved : goal.loop-i-preserved
loop-i-preserved c = search read-on
