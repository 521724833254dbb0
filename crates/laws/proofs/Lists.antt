-- Lists of numbers in order. Assumes nothing.
use Prim.Native.Nat.{ℕ, ◌≤◌}
use native.Mathlib.Nat.{le_trans}
use mathlib.Core.List.{List}
pub use Rattle.laws.specs.Lists.{Rising, none_left, one_more}

pub rising-from : {lo at : ℕ} {ns : List ℕ} → lo ≤ at → Rising at ns → Rising lo ns
rising-from h none_left = none_left
rising-from h (one_more k r) = one_more (le_trans h k) r
