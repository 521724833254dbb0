-- `note_all`: the first i records are noted. Assumes nothing.
use borrow.Author.Rules.{rules}
use Rattle.graph.proofs.Notes.{note-start, note-room, note-row, note-turn, note-done}
use Rattle.graph.proofs.note.note_all.Goals as goal

pub loop-row-init : goal.loop-row-init
loop-row-init c = search note-start

pub note-requires : goal.note-requires
note-requires c = record { room = search note-room; starts = search note-row }

pub loop-row-preserved : goal.loop-row-preserved
loop-row-preserved c = search note-turn

pub shape_of-w : goal.shape_of-w
shape_of-w c = search rules

pub returns : goal.returns
returns c = search note-done
