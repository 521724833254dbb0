-- `looked` meets its contract: each way out is a law of its own. Assumes nothing.
use Rattle.inspector.proofs.Looking.{run-asks, looked-readable, looked-read, looked-other}
use Rattle.inspector.proofs.symbol.looked.Goals as goal

pub run-own-requires : goal.run-own-requires
run-own-requires c = search run-asks

pub symbol_at-requires : goal.symbol_at-requires
symbol_at-requires c = search looked-readable

pub returns-in-Before : goal.returns-in-Before
returns-in-Before c = search looked-read

pub returns-in_default : goal.returns-in_default
returns-in_default c = let other = c.in_default.not-Before in search looked-other
