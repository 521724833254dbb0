use Rattle.parents.proofs.Leaves.{link-wrote}
use Rattle.parents.proofs.link.link.Goals as goal

pub returns : goal.returns
returns c = search link-wrote
