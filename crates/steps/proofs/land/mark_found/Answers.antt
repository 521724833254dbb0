-- `mark_found`: the mark leaves the rows, so the sides are those that were there. Assumes nothing.
use Rattle.steps.proofs.Lands.{raises-address, raises-within}
use Rattle.steps.proofs.land.mark_found.Goals as goal

pub raise_sides-requires : goal.raise_sides-requires
raise_sides-requires c = record { address = search raises-address; sides_within = search raises-within }
