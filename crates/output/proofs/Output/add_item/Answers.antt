-- `add_item`: two numbers, one after the other. Assumes nothing.
use Rattle.output.proofs.Puts.{puts-join}
use Rattle.output.proofs.Output.add_item.Goals as goal

pub returns : goal.returns
returns c = search (puts-join 4 2)
