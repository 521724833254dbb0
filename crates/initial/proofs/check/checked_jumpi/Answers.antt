-- `checked_jumpi` meets its contract: its false side starts a block, or does not. Assumes nothing.
use Rattle.initial.proofs.Checking.{jumpi-ends}
use Rattle.initial.proofs.check.checked_jumpi.Goals as goal

pub returns : goal.returns
returns c = search jumpi-ends
