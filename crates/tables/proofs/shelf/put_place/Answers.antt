-- `put_place`: four stores, one after the other. Assumes nothing.
use Rattle.tables.proofs.Shelves.{place-stored}
use Rattle.tables.proofs.shelf.put_place.Goals as goal

pub returns : goal.returns
returns c = search place-stored
