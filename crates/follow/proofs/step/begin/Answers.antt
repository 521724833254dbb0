use Rattle.follow.proofs.Moving.{begin-other, begin-at, begin-none}
use Rattle.follow.proofs.step.begin.Goals as goal

pub returns-then-to-ne0 : goal.returns-then-to-ne0
returns-then-to-ne0 c = search begin-other

pub returns-in_err-first : goal.returns-in_err-first
returns-in_err-first c = rw c.from_residual.ensures (let none = c.in_err-first.was in search begin-none)

pub returns : goal.returns
returns c = let some = c.in_ok-first.was in search begin-at
