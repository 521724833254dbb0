-- `written_to`: the destination, or the number for none. Assumes nothing.
use Rattle.entries.proofs.Families.{goal-written}
use Rattle.entries.proofs.found.Found.written_to.Goals as goal

pub returns : goal.returns
returns c = search goal-written
