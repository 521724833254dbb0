-- The contract of `render` leaves no choice: two results of one call are the same, byte for byte. Assumes nothing.
use mathlib.Core.Path.{◌≡◌}
use mathlib.Core.List.{List}
use Prim.Native.Nat.{ℕ}
use Rattle.spec.specs.Program.{program}
use Rattle.lent.specs.Bytes.{Stored}
use Rattle.lent.proofs.Once.{one-stored}

pub one-rendered : (text : List ℕ) {out u v : List ℕ} {a e : ℕ} → Stored a out 0 (program text) u → Stored e out 0 (program text) v → (a ≡ e) × (u ≡ v)
one-rendered text p q = one-stored p q
