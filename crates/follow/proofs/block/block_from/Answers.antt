use Rattle.follow.proofs.Going.{block_here, block-less, block_on, block_none}
use Rattle.follow.proofs.block.block_from.Goals as goal

pub returns-in-Some-block_in : goal.returns-in-Some-block_in
returns-in-Some-block_in c = search block_here

pub loop-entry-smaller : goal.loop-entry-smaller
loop-entry-smaller c = search block-less

pub loop-entry-preserved : goal.loop-entry-preserved
loop-entry-preserved c = search block_on

pub returns : goal.returns
returns c = search block_none
