use Rattle.follow.proofs.Edging.{known_at}
use Rattle.follow.proofs.edges.known.Goals as goal

pub returns : goal.returns
returns c = let w = c.in_ok-rows.was in let s = c.in_ok-shelf.was in known_at w c.shelf_of.ensures s c.look.ensures
