-- `sum_cells`: both sums so far, with the symbols left, are the whole. Assumes nothing.
use Rattle.std.proofs.Common.{rules}
use Rattle.tables.proofs.Stamps.{cells-again, both-done}
use Rattle.tables.proofs.row.sum_cells.Goals as goal

pub loop-i-preserved : goal.loop-i-preserved
loop-i-preserved c = (search rules, search cells-again, search cells-again)

pub returns : goal.returns
returns c = search both-done
