-- `goal_of`: the row has its mark, or an address. Assumes nothing.
use Rattle.entries.proofs.Paths.{goal-none, goal-some}
use Rattle.entries.proofs.found.Found.goal_of.Goals as goal

pub returns-then-to-eq-NOWHERE : goal.returns-then-to-eq-NOWHERE
returns-then-to-eq-NOWHERE c = search goal-none

pub returns-else-to-eq-NOWHERE : goal.returns-else-to-eq-NOWHERE
returns-else-to-eq-NOWHERE c = search goal-some
