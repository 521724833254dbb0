-- `first_cursor`: the first direct parent, or else the first found one. Assumes nothing.
use Rattle.steps.proofs.Clips.{first-direct, first-other}
use Rattle.steps.proofs.cursor.first_cursor.Goals as goal

pub returns-then-link-ne0 : goal.returns-then-link-ne0
returns-then-link-ne0 c = search first-direct

pub returns : goal.returns
returns c = search first-other
