-- `add_goal`: a number, and a path. Assumes nothing.
use Rattle.entries.proofs.Paths.{goal-put}
use Rattle.entries.proofs.found.Found.add_goal.Goals as goal

pub returns : goal.returns
returns c = search goal-put
