-- `shared`: no destination, several, and one. Assumes nothing.
use Rattle.graph.proofs.Merging.{shared-zero, shared-many, shared-one}
use Rattle.graph.proofs.merge.shared.Goals as goal

pub returns-then-note-eq0 : goal.returns-then-note-eq0
returns-then-note-eq0 c = search shared-zero

pub returns-then-note-size : goal.returns-then-note-size
returns-then-note-size c = search shared-many

pub returns : goal.returns
returns c = search shared-one
