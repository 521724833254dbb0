-- `joined` meets its contract: each way out is a law of joining. Assumes nothing.
use Rattle.exec.proofs.Trims.{joins-none, joins-before, joins-other}
use Rattle.exec.proofs.run.joined.Goals as goal

pub returns-then-base-ne0 : goal.returns-then-base-ne0
returns-then-base-ne0 c = search joins-before

pub returns-else-base-ne0 : goal.returns-else-base-ne0
returns-else-base-ne0 c = search joins-none

pub returns-in_default : goal.returns-in_default
returns-in_default c = search joins-other
