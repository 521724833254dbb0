-- `put_links`: four stores, one after the other. Assumes nothing.
use Rattle.tables.proofs.Links.{links-stored}
use Rattle.tables.proofs.link.put_links.Goals as goal

pub returns : goal.returns
returns c = search links-stored
