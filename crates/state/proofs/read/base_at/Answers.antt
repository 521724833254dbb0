-- `base_at` meets its contract. Assumes nothing.
use Rattle.state.proofs.States.{base-is}
use Rattle.state.proofs.read.base_at.Goals as goal

pub returns : goal.returns
returns c = search base-is
