-- `list_row` meets its contract: the start is put behind the others. Assumes nothing.
use Rattle.initial.proofs.Listing.{list-one}
use Rattle.initial.proofs.check.list_row.Goals as goal

pub returns : goal.returns
returns c = search (list-one, c.requires.starts)
