-- `block_at` meets its contract: the type is what the row's numbers say. Assumes nothing.
use Rattle.layout.proofs.Types.{read-block}
use Rattle.layout.proofs.row.block_at.Goals as goal

pub returns : goal.returns
returns c = search read-block
