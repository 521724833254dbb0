-- `compose_own` meets its contract: the parent lies apart. Assumes nothing.
use Rattle.state.proofs.Homes.{apart-asks}
use Rattle.state.proofs.compose.compose_own.Goals as goal

pub composed-requires : goal.composed-requires
composed-requires c = search apart-asks
