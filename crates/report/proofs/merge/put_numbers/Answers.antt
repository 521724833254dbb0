-- `put_numbers` meets its contract: the numbers passed are stored. Assumes nothing.
use Rattle.report.proofs.Placed.{put-start, put_on}
use Rattle.report.proofs.merge.put_numbers.Goals as goal

pub loop-i-init : goal.loop-i-init
loop-i-init c = search put-start

pub loop-i-preserved : goal.loop-i-preserved
loop-i-preserved c = search put_on
