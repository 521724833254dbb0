-- `evm::rows::Row::of` meets its contract: its size is the instruction's, and the rest what the list says. Assumes nothing.
use Rattle.evm.proofs.Listed.{row-known, row-unknown}
use Rattle.evm.proofs.rows.Row.of.Goals as goal

pub returns-in-Some : goal.returns-in-Some
returns-in-Some c = search row-known

pub returns-in-None : goal.returns-in-None
returns-in-None c = search row-unknown
