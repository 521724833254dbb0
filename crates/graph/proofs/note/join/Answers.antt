-- `join`: a first destination, the same again, and another. Assumes nothing.
use Rattle.graph.proofs.Notes.{join_first, join-same, join-other}
use Rattle.graph.proofs.note.join.Goals as goal

pub returns-then-old-eq0 : goal.returns-then-old-eq0
returns-then-old-eq0 c = search join_first

pub returns-then-old-to : goal.returns-then-old-to
returns-then-old-to c = search join-same

pub returns : goal.returns
returns c = search join-other
