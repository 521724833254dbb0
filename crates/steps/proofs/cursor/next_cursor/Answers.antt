-- `next_cursor`: the next found parent, or the next direct one, or else the first found one. Assumes nothing.
use Rattle.steps.proofs.Clips.{next-found, next_last, next-direct, next-other}
use Rattle.steps.proofs.cursor.next_cursor.Goals as goal

pub returns-then-at-ge-FOUND : goal.returns-then-at-ge-FOUND
returns-then-at-ge-FOUND c = search next-found

pub returns-then-at-highest : goal.returns-then-at-highest
returns-then-at-highest c = search next_last

pub returns-then-link-ne0 : goal.returns-then-link-ne0
returns-then-link-ne0 c = search next-direct

pub returns : goal.returns
returns c = search next-other
