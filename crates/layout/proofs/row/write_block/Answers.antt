-- `write_block` meets its contract: the type's numbers are stored. Assumes nothing.
use Rattle.layout.proofs.Writing.{put-numbers}
use Rattle.layout.proofs.row.write_block.Goals as goal

pub returns : goal.returns
returns c = search put-numbers
