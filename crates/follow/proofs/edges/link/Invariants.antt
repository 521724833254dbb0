use Rattle.follow.proofs.Edging.{Linking}
use Rattle.follow.proofs.edges.link.Given as goal

abbrev pub invariant-loop-to : goal.invariant-loop-to
invariant-loop-to l = (goal.iterator-loop-to).can_next l.to-iterator × (goal.iterator-loop-to).is_finite l.to-iterator × Linking l.map l.initial.work l.rows l.fn.named l.to-iterator l.count l.work
