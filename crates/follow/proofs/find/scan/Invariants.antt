use Rattle.follow.proofs.Passing.{Scanning}
use Rattle.follow.proofs.find.scan.Given as goal

abbrev pub invariant-loop-block : goal.invariant-loop-block
invariant-loop-block l = (goal.iterator-loop-block).can_next l.block-iterator × (goal.iterator-loop-block).is_finite l.block-iterator × Scanning l.map l.start l.block-iterator l.slot
