-- `map` meets its contract. Assumes nothing.
use Rattle.state.proofs.Homes.{home-none, home-asks, home-more, home-done}
use Rattle.state.proofs.compose.map.Goals as goal

pub loop-i-init : goal.loop-i-init
loop-i-init c = search home-none

pub resolved_in-over-requires : goal.resolved_in-over-requires
resolved_in-over-requires c = search home-asks

pub loop-i-preserved : goal.loop-i-preserved
loop-i-preserved c = home-more c.requires c.loop-i.invariant c.loop-i-test.true c.get_cell-symbol.ensures c.resolved_in-over.ensures c.put_cell.ensures

pub returns : goal.returns
returns c = search home-done
