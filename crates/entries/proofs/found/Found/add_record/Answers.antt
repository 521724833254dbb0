-- `add_record`: the choice says which kind. Assumes nothing.
use Rattle.entries.proofs.Paths.{put-numbered, put-plain}
use Rattle.entries.proofs.found.Found.add_record.Goals as goal

pub returns-then-choice-eq0 : goal.returns-then-choice-eq0
returns-then-choice-eq0 c = search put-numbered

pub returns : goal.returns
returns c = search put-plain
