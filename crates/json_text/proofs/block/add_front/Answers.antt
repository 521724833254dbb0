-- `add_front`: three numbers, each behind its name. Assumes nothing.
use Rattle.json_text.proofs.Types.{front-put}
use Rattle.json_text.proofs.block.add_front.Goals as goal

pub returns : goal.returns
returns c = search front-put
