-- `early` meets its contract: each way out is a law of its own. Assumes nothing.
use Rattle.inspector.proofs.Answering.{early-long, early-mode, early-short, early-none, passed_on}
use Rattle.inspector.proofs.call.early.Goals as goal

pub returns-then-size-gt-LONGEST : goal.returns-then-size-gt-LONGEST
returns-then-size-gt-LONGEST c = search early-long

pub returns-in_err-mode : goal.returns-in_err-mode
returns-in_err-mode c = rw (passed_on c.from_residual.ensures) (let bad = c.in_err-mode.was in search early-mode)

pub returns-then-lent-size : goal.returns-then-lent-size
returns-then-lent-size c = let ok = c.in_ok-mode.was in search early-short

pub returns : goal.returns
returns c = let ok = c.in_ok-mode.was in search early-none
