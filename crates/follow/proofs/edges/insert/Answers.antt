use Rattle.follow.proofs.Edging.{insert-at, insert-none}
use Rattle.follow.proofs.edges.insert.Goals as goal

pub returns-then-get64-eq0 : goal.returns-then-get64-eq0
returns-then-get64-eq0 c = insert-at c.loop-i.invariant c.args.shelf c.loop-i.i c.enter.ensures

pub returns : goal.returns
returns c = insert-none c.loop-i.invariant _ 0 _ _ _
