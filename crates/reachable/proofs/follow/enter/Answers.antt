-- `enter`: a flag that is there, or one more address flagged, marked and waiting. Assumes nothing.
use Rattle.reachable.proofs.Entering.{entered-before, entry-room, entered}
use Rattle.reachable.proofs.follow.enter.Goals as goal

pub returns-then-get8-ne0 : goal.returns-then-get8-ne0
returns-then-get8-ne0 c = search entered-before

pub push-requires-clause-count_le_size : goal.push-requires-clause-count_le_size
push-requires-clause-count_le_size c = search entry-room

pub returns : goal.returns
returns c = search entered
