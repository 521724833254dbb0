-- `four`: the four addresses, as one number. Assumes nothing.
use Rattle.tables.proofs.Addrs.{packed}
use Rattle.tables.proofs.path.four.Goals as goal

pub returns : goal.returns
returns c = search packed
