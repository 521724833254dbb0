-- `add_entries`: what is put, and what is left, are all. Assumes nothing.
use Rattle.entries.proofs.Walks.{walk-address, walk-less}
use Rattle.entries.proofs.Listed.{list-start, list-room, list-row, list-turn, list_done}
use Rattle.entries.proofs.found.Found.add_entries.Goals as goal

pub first_row-next-requires : goal.first_row-next-requires
first_row-next-requires c = search walk-address

pub loop-next-init : goal.loop-next-init
loop-next-init c = search list-start

pub add_row-requires : goal.add_row-requires
add_row-requires c = search list-row

pub next_row-next-requires : goal.next_row-next-requires
next_row-next-requires c = search list-room

pub loop-next-smaller : goal.loop-next-smaller
loop-next-smaller c = search walk-less

pub loop-next-preserved : goal.loop-next-preserved
loop-next-preserved c = search list-turn

pub returns : goal.returns
returns c = search list_done
