-- `add_address`: a comma, and a number. Assumes nothing.
use Rattle.json_text.proofs.Ways.{address-put}
use Rattle.json_text.proofs.way.add_address.Goals as goal

pub returns : goal.returns
returns c = search address-put
