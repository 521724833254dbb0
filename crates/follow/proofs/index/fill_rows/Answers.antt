use Rattle.std.proofs.Common.{rules}
use Rattle.follow.proofs.Passing.{go-start, ready-walks}
use Rattle.follow.proofs.Indexing.{fill_start, fill_one, fill-owned, fill-table, fill-sum, fill_on}
use Rattle.follow.proofs.index.fill_rows.Goals as goal

pub loop-block-init : goal.loop-block-init
loop-block-init c = (search (go-start, ready-walks), tt, search fill_start)

pub loop-block-init-derived : goal.loop-block-init-derived
loop-block-init-derived c = (search (go-start, ready-walks), tt)

pub overflow_add-key : goal.overflow_add-key
overflow_add-key c = fill_one c.loop-block.invariant.2 c.next.ensures.steps c.in-Some.is c.requires.ready

pub link-requires-clause-owned : goal.link-requires-clause-owned
link-requires-clause-owned c = fill-owned c.loop-block.invariant.2 c.next.ensures.steps c.in-Some.is

pub link-requires-clause-table : goal.link-requires-clause-table
link-requires-clause-table c = fill-table c.loop-block.invariant.2 c.next.ensures.steps c.in-Some.is c.if-rows-block.false c.put_row.ensures

pub overflow_add-slot : goal.overflow_add-slot
overflow_add-slot c = fill-sum c.loop-block.invariant.2 c.next.ensures.steps c.in-Some.is c.requires.ready c.link.ensures

pub loop-block-preserved : goal.loop-block-preserved
loop-block-preserved c = let on = fill_on c.loop-block.invariant.2 c.next.ensures.steps c.in-Some.is c.if-rows-block.false c.put_row.ensures c.requires.ready c.link.ensures in search (rules, on)
