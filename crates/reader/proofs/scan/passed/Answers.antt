-- `passed` meets its contract: each way out is a law of the turn. Assumes nothing.
use Rattle.reader.proofs.Turning.{one-low, pass-none, pass-stops, pass-goes}
use Rattle.reader.proofs.scan.passed.Goals as goal

pub returns-in_err-class : goal.returns-in_err-class
returns-in_err-class c = rw c.from_residual.ensures (search (c.in_err-class.was, pass-none))

pub behind-requires : goal.behind-requires
behind-requires c = one-low _ _ c.class_at.ensures (c.in_ok-class.was {u = tt}) (λ i. (c.type_inv.map i).fits)

pub returns-in_err-place : goal.returns-in_err-place
returns-in_err-place c = rw c.from_residual-in_err-place.ensures (search (c.in_ok-class.was, c.in_err-place.was, pass-stops))

pub returns : goal.returns
returns c = search (c.in_ok-class.was, c.in_ok-place.was, pass-goes)
