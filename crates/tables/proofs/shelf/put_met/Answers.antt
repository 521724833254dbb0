-- `put_met`: what was stored is what the row tells. Assumes nothing.
use Rattle.tables.proofs.Shelves.{row_put}
use Rattle.tables.proofs.shelf.put_met.Goals as goal

pub returns : goal.returns
returns c = search row_put
