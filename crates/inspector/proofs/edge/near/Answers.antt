-- `near` meets its contract: each way out is a law of its own. Assumes nothing.
use Rattle.inspector.proofs.Tabling.{near_fits, near_none, near-stands}
use Rattle.inspector.proofs.edge.near.Goals as goal

pub get64-requires : goal.get64-requires
get64-requires c = search near_fits

pub returns-in-None : goal.returns-in-None
returns-in-None c = search near_none

pub seek-requires : goal.seek-requires
seek-requires c = search near-stands
