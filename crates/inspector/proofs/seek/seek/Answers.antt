-- `seek` meets its contract: each way out is a law of its own. Assumes nothing.
use Rattle.inspector.proofs.Seeking.{seek-start, seek-edge, seek-less, seek-own, seek-other, seek-over}
use Rattle.inspector.proofs.seek.seek.Goals as goal

pub loop-entry-init : goal.loop-entry-init
loop-entry-init c = search seek-start

pub returns-in-Edge : goal.returns-in-Edge
returns-in-Edge c = search seek-edge

pub loop-entry-smaller : goal.loop-entry-smaller
loop-entry-smaller c = search seek-less

pub loop-entry-preserved : goal.loop-entry-preserved
loop-entry-preserved c = search seek-own

pub returns-in-Other : goal.returns-in-Other
returns-in-Other c = search seek-other

pub returns : goal.returns
returns c = search seek-over
