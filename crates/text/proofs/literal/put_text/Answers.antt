-- `put_text`: as many bytes as there are are all. Assumes nothing.
use Rattle.text.proofs.Texts.{text-stored}
use Rattle.text.proofs.literal.put_text.Goals as goal

pub returns : goal.returns
returns c = search text-stored
