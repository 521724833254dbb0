-- `push_row`: the row stands at the head of its bucket. Assumes nothing.
use Rattle.tables.proofs.Shelves.{pushed}
use Rattle.tables.proofs.shelf.push_row.Goals as goal

pub returns : goal.returns
returns c = search pushed
