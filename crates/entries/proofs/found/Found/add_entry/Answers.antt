-- `add_entry`: an item of the family's kind. Assumes nothing.
use Rattle.entries.proofs.Paths.{entry-put}
use Rattle.entries.proofs.found.Found.add_entry.Goals as goal

pub returns : goal.returns
returns c = search entry-put
