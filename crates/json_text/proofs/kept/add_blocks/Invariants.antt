-- `add_blocks`: those of the entries that are passed are put. Assumes nothing.
use Rattle.json_text.proofs.Rowed.{Lining}
use Rattle.json_text.proofs.kept.add_blocks.Given as goal

abbrev pub invariant-loop-i : goal.invariant-loop-i
invariant-loop-i l = Lining l.found.w.now l.found.r.now l.found.q.now l.found.size l.found.rows l.found.blocks l.initial.output l.output l.i
