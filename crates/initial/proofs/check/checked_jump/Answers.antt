-- `checked_jump` meets its contract: a jump that lands is kept. Assumes nothing.
use Rattle.initial.proofs.Checking.{jump_kept, jump-ends}
use Rattle.initial.proofs.check.checked_jump.Goals as goal

pub returns-then-lands : goal.returns-then-lands
returns-then-lands c = search jump_kept

pub returns-else-lands : goal.returns-else-lands
returns-else-lands c = search jump-ends
