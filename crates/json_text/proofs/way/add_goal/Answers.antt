-- `add_goal`: null, or an address. Assumes nothing.
use Rattle.json_text.proofs.Ways.{goal-none, goal-some}
use Rattle.json_text.proofs.way.add_goal.Goals as goal

pub returns-in-None : goal.returns-in-None
returns-in-None c = search goal-none

pub returns-in-Some : goal.returns-in-Some
returns-in-Some c = search goal-some
