-- `first_level`: what is stored, counted and read is what `Placed` says. Assumes nothing.
use Rattle.resolver.proofs.Placing.{place-counts}
use Rattle.resolver.proofs.turn.first_level.Goals as goal

pub count-requires : goal.count-requires
count-requires c = place-counts c.requires c.put16.ensures
