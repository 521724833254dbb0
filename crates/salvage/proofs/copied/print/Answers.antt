-- `print` meets its contract: four numbers, one behind the other. Assumes nothing.
use Rattle.salvage.proofs.Printed.{four-stored}
use Rattle.salvage.proofs.copied.print.Goals as goal

pub returns : goal.returns
returns c = search four-stored
