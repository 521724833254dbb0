-- `add_way`: a path and a destination, each behind its name. Assumes nothing.
use Rattle.json_text.proofs.Ways.{way-put}
use Rattle.json_text.proofs.way.add_way.Goals as goal

pub returns : goal.returns
returns c = search way-put
