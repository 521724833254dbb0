-- `stamp_of`: last block, symbol, then the state's symbols, in both sums. Assumes nothing.
use Rattle.tables.proofs.Seeks.{stamped}
use Rattle.tables.proofs.row.stamp_of.Goals as goal

pub returns : goal.returns
returns c = search stamped
