-- `add_blocks`: those of the entries that are passed are put and counted. Assumes nothing.
use Rattle.entries.proofs.Blocks.{place-start, place-room, place-block, place-tag, place-few, place-turn, place-puts, place-counts}
use Rattle.entries.proofs.found.Found.add_blocks.Goals as goal

pub loop-i-init : goal.loop-i-init
loop-i-init c = search place-start

pub start_at-requires : goal.start_at-requires
start_at-requires c = search place-room

pub add_kept-count-requires : goal.add_kept-count-requires
add_kept-count-requires c = (search place-block, search place-tag, search place-few)

pub loop-i-preserved : goal.loop-i-preserved
loop-i-preserved c = search place-turn

pub returns : goal.returns
returns c = (search place-puts, search place-counts)
