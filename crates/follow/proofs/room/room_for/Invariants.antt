use Rattle.follow.proofs.Passing.{Rooming}
use Rattle.follow.proofs.room.room_for.Given as goal

abbrev pub invariant-loop-block : goal.invariant-loop-block
invariant-loop-block l = (goal.iterator-loop-block).can_next l.block-iterator × (goal.iterator-loop-block).is_finite l.block-iterator × Rooming l.map l.lent l.block-iterator l.slots
