-- `clip`: the three ways that a link can go. Assumes nothing.
use Rattle.steps.proofs.Clips.{clip-none, clip-late, clip-there}
use Rattle.steps.proofs.cursor.clip.Goals as goal

pub returns-then-link-eq0 : goal.returns-then-link-eq0
returns-then-link-eq0 c = search clip-none

pub returns-then-opened-link : goal.returns-then-opened-link
returns-then-opened-link c = search clip-late

pub returns : goal.returns
returns c = search clip-there
