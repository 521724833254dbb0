-- `exchange` meets its contract: two cells change places. Assumes nothing.
use Rattle.exec.proofs.Swaps.{exchanged}
use Rattle.exec.proofs.swap.exchange.Goals as goal

pub returns : goal.returns
returns c = search exchanged
