-- `put_block` meets its contract: its four stores of two bytes are one of eight. Assumes nothing.
use Rattle.layout.proofs.Writing.{put-fields}
use Rattle.layout.proofs.row.put_block.Goals as goal

pub returns : goal.returns
returns c = search put-fields
