-- `put_says`: four stores, one after the other. Assumes nothing.
use Rattle.tables.proofs.Links.{says-stored}
use Rattle.tables.proofs.link.put_says.Goals as goal

pub returns : goal.returns
returns c = search says-stored
