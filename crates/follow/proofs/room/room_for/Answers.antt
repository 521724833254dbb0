use Rattle.std.proofs.Common.{rules}
use Rattle.follow.proofs.Passing.{go-start, room-start, room_short, room-on}
use Rattle.follow.proofs.room.room_for.Goals as goal

pub loop-block-init : goal.loop-block-init
loop-block-init c = (search (rules, go-start), tt, search room-start)

pub returns-then-lent-slots : goal.returns-then-lent-slots
returns-then-lent-slots c = room_short c.loop-block.invariant.2 c.next.ensures.steps c.in-Some.is c.many-more.ensures c.if-lent-slots.true

pub loop-block-preserved : goal.loop-block-preserved
loop-block-preserved c = let on = room-on c.loop-block.invariant.2 c.next.ensures.steps c.in-Some.is c.many-more.ensures c.if-lent-slots.false in search (rules, on)
