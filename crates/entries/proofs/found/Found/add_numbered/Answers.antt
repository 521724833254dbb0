-- `add_numbered`: an item of the family's kind. Assumes nothing.
use Rattle.entries.proofs.Paths.{numbered-put}
use Rattle.entries.proofs.found.Found.add_numbered.Goals as goal

pub returns : goal.returns
returns c = search numbered-put
