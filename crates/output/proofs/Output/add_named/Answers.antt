-- `add_named`: one after the other. Assumes nothing.
use native.Mathlib.Omega.{arith}
use Rattle.output.proofs.Puts.{puts-few, few-join}
use Rattle.output.proofs.Output.add_named.Goals as goal

pub returns : goal.returns
returns c = few-join (puts-few _ c.add_text.ensures (omega arith)) c.add_decimal.ensures
