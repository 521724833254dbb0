use Rattle.follow.proofs.Passing.{one-none, one-some, row-none, row-walking, row_at, row-over}
use Rattle.follow.proofs.find.Finder.row.Goals as goal

pub returns-in_err-own : goal.returns-in_err-own
returns-in_err-own c = rw c.from_residual.ensures (row-none c.requires.indexed c.requires.start_lt_rows c.get64.ensures (one-none c.checked_sub.ensures c.in_err-own.was))

pub block_from-requires : goal.block_from-requires
block_from-requires c = row-walking c.requires.indexed c.requires.start_lt_rows c.get64.ensures _ (one-some c.checked_sub.ensures c.in_ok-own.was)

pub returns-in_err-block : goal.returns-in_err-block
returns-in_err-block c = rw c.from_residual-in_err-block.ensures (row-over c.requires.indexed c.requires.start_lt_rows c.get64.ensures _ (one-some c.checked_sub.ensures c.in_ok-own.was) c.block_from.ensures c.in_err-block.was)

pub returns : goal.returns
returns c = row_at c.requires.indexed c.requires.start_lt_rows c.get64.ensures _ (one-some c.checked_sub.ensures c.in_ok-own.was) c.block_from.ensures c.in_ok-block.was c.get64-slot.ensures
