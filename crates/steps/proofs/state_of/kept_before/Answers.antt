-- `kept_before`: none before the first, else the field of the record before. Assumes nothing.
use Rattle.steps.proofs.Takes.{kept-none, kept-some}
use Rattle.steps.proofs.state_of.kept_before.Goals as goal

pub returns-then-row-eq0 : goal.returns-then-row-eq0
returns-then-row-eq0 c = search kept-none

pub returns : goal.returns
returns c = search kept-some
