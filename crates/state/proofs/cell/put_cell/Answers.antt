-- `put_cell` meets its contract: one byte and then eight are the symbol's. Assumes nothing.
use native.Mathlib.Omega.{arith}
use Rattle.state.proofs.Cells.{put-parts}
use Rattle.state.proofs.cell.put_cell.Goals as goal

pub returns : goal.returns
returns c = search (put-parts, arith)
