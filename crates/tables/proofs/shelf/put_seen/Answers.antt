-- `put_seen`: two stores, one after the other. Assumes nothing.
use Rattle.tables.proofs.Shelves.{seen-put}
use Rattle.tables.proofs.shelf.put_seen.Goals as goal

pub returns : goal.returns
returns c = search seen-put
