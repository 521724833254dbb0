use Rattle.follow.proofs.Indexing.{Filling}
use Rattle.follow.proofs.index.fill_rows.Given as goal

abbrev pub invariant-loop-block : goal.invariant-loop-block
invariant-loop-block l = (goal.iterator-loop-block).can_next l.block-iterator × (goal.iterator-loop-block).is_finite l.block-iterator × Filling l.map l.initial.work l.rows l.block-iterator l.slot l.work
