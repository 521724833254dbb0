-- `follow_row`: the row leads nowhere, or its other key is flagged, or it is not. Assumes nothing.
use Rattle.reachable.proofs.Leading.{row-nowhere, row-led, row-not-led}
use Rattle.reachable.proofs.pruning.follow_row.Goals as goal

pub returns-then-to-eq-NOWHERE : goal.returns-then-to-eq-NOWHERE
returns-then-to-eq-NOWHERE c = search row-nowhere

pub returns-then-is_flagged : goal.returns-then-is_flagged
returns-then-is_flagged c = search row-led

pub returns : goal.returns
returns c = search row-not-led
