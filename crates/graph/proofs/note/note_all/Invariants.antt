-- `note_all`: the first i records are noted. Assumes nothing.
use Rattle.graph.proofs.Notes.{Noting}
use Rattle.graph.proofs.note.note_all.Given as goal

abbrev pub invariant-loop-row : goal.invariant-loop-row
invariant-loop-row l = Noting l.size l.records l.initial.w l.r l.w l.row
