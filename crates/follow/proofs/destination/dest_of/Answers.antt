use Rattle.follow.proofs.Going.{dest-two, dest-one, dest-seven, dest-none}
use Rattle.follow.proofs.destination.dest_of.Goals as goal

pub returns-in_err-to-in-Zero : goal.returns-in_err-to-in-Zero
returns-in_err-to-in-Zero c = rw c.from_residual.ensures (let none = c.in_err-to-in-Zero.was in search dest-none)

pub returns-in-Two : goal.returns-in-Two
returns-in-Two c = search dest-two

pub returns-in-One : goal.returns-in-One
returns-in-One c = search dest-one

pub returns-in_ok-to-in-Zero : goal.returns-in_ok-to-in-Zero
returns-in_ok-to-in-Zero c = let some = c.in_ok-to-in-Zero.was in search dest-seven
