-- `link`: the rows from i on are linked. Assumes nothing.
use Rattle.reachable.proofs.Chaining.{link_start, link_row, link-turn}
use Rattle.reachable.proofs.link.link.Goals as goal

pub loop-row-init : goal.loop-row-init
loop-row-init c = search link_start

pub link_row-requires-clause-edge_row : goal.link_row-requires-clause-edge_row
link_row-requires-clause-edge_row c = search link_row

pub loop-row-preserved : goal.loop-row-preserved
loop-row-preserved c = search link-turn
