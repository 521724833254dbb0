-- `add_ways`: what is put, and what is left, are all. Assumes nothing.
use Rattle.entries.proofs.Walks.{walk-address, walk-less}
use Rattle.json_text.proofs.Walked.{walk_start, link-room, walk-row, walk_turn, walk-done}
use Rattle.json_text.proofs.listing.add_ways.Goals as goal

pub first_row-next-requires : goal.first_row-next-requires
first_row-next-requires c = search walk-address

pub loop-next-init : goal.loop-next-init
loop-next-init c = search walk_start

pub add_row-requires : goal.add_row-requires
add_row-requires c = search walk-row

pub next_row-next-requires : goal.next_row-next-requires
next_row-next-requires c = search link-room

pub loop-next-smaller : goal.loop-next-smaller
loop-next-smaller c = search walk-less

pub loop-next-preserved : goal.loop-next-preserved
loop-next-preserved c = search walk_turn

pub returns : goal.returns
returns c = search walk-done
