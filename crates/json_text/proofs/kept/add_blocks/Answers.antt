-- `add_blocks`: those of the entries that are passed are put. Assumes nothing.
use Rattle.json_text.proofs.Rowed.{line-start, line-room, line-far, line-tag, line-block, line-turn, line-done}
use Rattle.json_text.proofs.kept.add_blocks.Goals as goal

pub loop-i-init : goal.loop-i-init
loop-i-init c = search line-start

pub start_at-requires : goal.start_at-requires
start_at-requires c = search line-room

pub add_kept-requires : goal.add_kept-requires
add_kept-requires c = (search line-block, search line-tag, search line-far)

pub loop-i-preserved : goal.loop-i-preserved
loop-i-preserved c = search line-turn

pub returns : goal.returns
returns c = search line-done
