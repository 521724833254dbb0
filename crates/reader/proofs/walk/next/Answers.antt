-- `next` meets its contract: each way out is a law of the walk. Assumes nothing.
use Rattle.reader.proofs.Walked.{next-over, next_here}
use Rattle.reader.proofs.walk.next.Goals as goal

pub returns-then-map-at : goal.returns-then-map-at
returns-then-map-at c = search next-over

pub returns : goal.returns
returns c = search next_here
