-- `falling` meets its contract: its true side is landed on, or is not. Assumes nothing.
use Rattle.initial.proofs.Checking.{jumpi-kept, jumpi-falls}
use Rattle.initial.proofs.check.falling.Goals as goal

pub returns-then-lands : goal.returns-then-lands
returns-then-lands c = search jumpi-kept

pub returns-else-lands : goal.returns-else-lands
returns-else-lands c = search jumpi-falls
