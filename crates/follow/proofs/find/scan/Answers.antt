use Rattle.std.proofs.Common.{rules}
use Rattle.follow.proofs.Passing.{go-start, ready-walks, scan-start, scan-at, scan-one, scan-sum, scan-on}
use Rattle.follow.proofs.find.scan.Goals as goal

pub loop-block-init : goal.loop-block-init
loop-block-init c = (search (go-start, ready-walks), tt, search scan-start)

pub loop-block-init-derived : goal.loop-block-init-derived
loop-block-init-derived c = (search (go-start, ready-walks), tt)

pub returns-then-block-start : goal.returns-then-block-start
returns-then-block-start c = scan-at c.loop-block.invariant.2 c.next.ensures.steps c.in-Some.is c.if-block-start.true

pub overflow_add-slot : goal.overflow_add-slot
overflow_add-slot c = scan-one c.loop-block.invariant.2 c.next.ensures.steps c.in-Some.is c.many.ensures c.requires

pub overflow_add-slot-in-loop-block : goal.overflow_add-slot-in-loop-block
overflow_add-slot-in-loop-block c = scan-sum c.loop-block.invariant.2 c.next.ensures.steps c.in-Some.is c.many.ensures c.requires

pub loop-block-preserved : goal.loop-block-preserved
loop-block-preserved c = let on = scan-on c.loop-block.invariant.2 c.next.ensures.steps c.in-Some.is c.many.ensures c.if-block-start.false in search (rules, on)
