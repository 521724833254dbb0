-- `stamp_at`: the sum and the mark as one number. Assumes nothing.
use Rattle.tables.proofs.Seeks.{stamp-read}
use Rattle.tables.proofs.shelf.stamp_at.Goals as goal

pub returns : goal.returns
returns c = search stamp-read
