-- What follows where nothing has gone wrong. Assumes nothing.
use Rattle.std.proofs.Math.Option.{Option, none, some}

-- a panic stays one
abbrev pub and_then : {A B : Type 0} → Option A → (A → Option B) → Option B
and_then none k = none
and_then (some x) k = k x
