-- `add_map_head`: an item of the kind 1. Assumes nothing.
use Rattle.entries.proofs.Mapping.{head-put}
use Rattle.entries.proofs.found.Found.add_map_head.Goals as goal

pub returns : goal.returns
returns c = search head-put
