-- `mark`: a mark is set where there is none. Assumes nothing.
use Rattle.reachable.proofs.Marks.{mark-stays, mark-sets}
use Rattle.reachable.proofs.fields.mark.Goals as goal

pub returns-then-get32-ne0 : goal.returns-then-get32-ne0
returns-then-get32-ne0 c = search mark-stays

pub returns : goal.returns
returns c = search mark-sets
