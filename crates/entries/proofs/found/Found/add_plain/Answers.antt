-- `add_plain`: an item of the family's kind. Assumes nothing.
use Rattle.entries.proofs.Paths.{plain-put}
use Rattle.entries.proofs.found.Found.add_plain.Goals as goal

pub returns : goal.returns
returns c = search plain-put
