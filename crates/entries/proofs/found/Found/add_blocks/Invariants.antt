-- `add_blocks`: those of the entries that are passed are put and counted. Assumes nothing.
use Rattle.entries.proofs.Blocks.{Placing}
use Rattle.entries.proofs.found.Found.add_blocks.Given as goal

abbrev pub invariant-loop-i : goal.invariant-loop-i
invariant-loop-i l = Placing l.family l.self.w.now l.self.r.now l.self.q.now l.self.size l.self.rows l.self.blocks l.initial.output l.output l.count l.i
