use Rattle.follow.proofs.Edging.{keep-in, keep-none}
use Rattle.follow.proofs.edges.keep.Goals as goal

pub returns-in-Some : goal.returns-in-Some
returns-in-Some c = search keep-in

pub returns-in_default : goal.returns-in_default
returns-in_default c = search keep-none
