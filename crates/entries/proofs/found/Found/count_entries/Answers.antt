-- `count_entries`: what is counted, and what is left, are all. Assumes nothing.
use Rattle.entries.proofs.Walks.{walk-address, walk-less}
use Rattle.entries.proofs.Listed.{count-start, count-few, count_room, count_turn, count-done}
use Rattle.entries.proofs.found.Found.count_entries.Goals as goal

pub first_row-next-requires : goal.first_row-next-requires
first_row-next-requires c = search walk-address

pub loop-next-init : goal.loop-next-init
loop-next-init c = search count-start

pub count_row-count-requires : goal.count_row-count-requires
count_row-count-requires c = (search count_room, search count-few)

pub next_row-next-requires : goal.next_row-next-requires
next_row-next-requires c = search count_room

pub loop-next-smaller : goal.loop-next-smaller
loop-next-smaller c = search walk-less

pub loop-next-preserved : goal.loop-next-preserved
loop-next-preserved c = search count_turn

pub returns : goal.returns
returns c = search count-done
