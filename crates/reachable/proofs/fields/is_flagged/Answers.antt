-- `is_flagged`: the flag is the address's place in the list of those flagged. Assumes nothing.
use Rattle.reachable.proofs.Marks.{is-flagged}
use Rattle.reachable.proofs.fields.is_flagged.Goals as goal

pub returns : goal.returns
returns c = search is-flagged
