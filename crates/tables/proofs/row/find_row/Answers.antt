-- `find_row`: a row that is met is on the shelf of its sum. Assumes nothing.
use Rattle.tables.proofs.Seeks.{on-shelf}
use Rattle.tables.proofs.row.find_row.Goals as goal

pub found-requires-clause-keyed : goal.found-requires-clause-keyed
found-requires-clause-keyed c = record { inside = on-shelf c.requires }
