-- `follow_rows`: the rows of the key below the next one are followed; that rises. Assumes nothing.
use Rattle.reachable.proofs.Leading.{walk-address, walk_start, walk-going, walk-room, walk_turn, walk-less, walk-done}
use Rattle.reachable.proofs.pruning.follow_rows.Goals as goal

pub first_row-next-requires : goal.first_row-next-requires
first_row-next-requires c = search walk-address

pub loop-next-init : goal.loop-next-init
loop-next-init c = search walk_start

pub follow_row-more-requires : goal.follow_row-more-requires
follow_row-more-requires c = search walk-going

pub next_row-next-requires : goal.next_row-next-requires
next_row-next-requires c = search walk-room

pub loop-next-smaller : goal.loop-next-smaller
loop-next-smaller c = search walk-less

pub loop-next-preserved : goal.loop-next-preserved
loop-next-preserved c = search walk_turn

pub returns : goal.returns
returns c = search walk-done
