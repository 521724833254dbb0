-- `hold_bytes`: each slice's type says it. Assumes nothing.
use Rattle.json_text.proofs.Ended.{are-bytes}
use Rattle.json_text.proofs.whole.hold_bytes.Goals as goal

pub returns : goal.returns
returns c = (are-bytes c.type_inv.w, are-bytes c.type_inv.r, are-bytes c.type_inv.q)
