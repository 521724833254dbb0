-- `put_row`: two stores, one after the other. Assumes nothing.
use Rattle.tables.proofs.Links.{row-stored}
use Rattle.tables.proofs.link.put_row.Goals as goal

pub returns : goal.returns
returns c = search row-stored
