-- `type_at` meets its contract: the row's three numbers are read. Assumes nothing.
use Rattle.layout.proofs.Writing.{read-numbers}
use Rattle.layout.proofs.row.type_at.Goals as goal

pub returns : goal.returns
returns c = search read-numbers
