-- `compose_kept` meets its contract: the parent lies in s, where no cell is written. Assumes nothing.
use Rattle.state.proofs.Homes.{here-asks}
use Rattle.state.proofs.compose.compose_kept.Goals as goal

pub composed-requires : goal.composed-requires
composed-requires c = search here-asks
