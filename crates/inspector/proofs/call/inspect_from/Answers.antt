-- `inspect_from` meets its contract: each way out is a law of its own. Assumes nothing.
use Rattle.inspector.proofs.Answering.{passed_on, from-refused, from-bad, from-ready, from-lent, from-right, from_wrong}
use Rattle.inspector.proofs.call.inspect_from.Goals as goal

pub returns-in_err-mode : goal.returns-in_err-mode
returns-in_err-mode c = rw (passed_on c.from_residual.ensures) (let bad = c.in_err-mode.was in search from-refused)

pub returns-in-Err : goal.returns-in-Err
returns-in-Err c = let ok = c.in_ok-mode.was in search from-bad

pub invariant_of-found : goal.invariant_of-found
invariant_of-found c = let ok = c.in_ok-mode.was in record { bytes = λ i. (c.type_inv.map i).fits; held = search from-ready }

pub found-requires : goal.found-requires
found-requires c = let ok = c.in_ok-mode.was in search from-lent

pub returns-in-Ok : goal.returns-in-Ok
returns-in-Ok c = let ok = c.in_ok-mode.was in search from-right

pub returns-in-Err-found : goal.returns-in-Err-found
returns-in-Err-found c = let ok = c.in_ok-mode.was in search from_wrong
