-- `note`: a record without destination is none, another is joined to the note of its start. Assumes nothing.
use Rattle.graph.proofs.Notes.{note-none, note-one}
use Rattle.graph.proofs.note.note.Goals as goal

pub returns-then-to-eq-NOWHERE : goal.returns-then-to-eq-NOWHERE
returns-then-to-eq-NOWHERE c = search note-none

pub returns : goal.returns
returns c = search note-one
