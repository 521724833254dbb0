-- A number and a value as one. Assumes nothing.
use mathlib.Core.Path.{◌≡◌, sym, ap, ◌∙◌}
use Prim.Native.Nat.{ℕ, ◌+◌, ◌*◌, ◌-◌, ◌^◌, ◌≤◌, ◌<◌}
use native.Mathlib.Omega.{arith}
use lib.Dec.{ltb}
use borrow.Author.Tests.{lt-ltb, le-ltb}
use Rattle.spec.specs.Reader.{told}
use Rattle.refusal.specs.Numbers.{number_of}
use Rattle.refusal.specs.declared.Refusal.{Refusal}
use Rattle.refusal.specs.declared.Refusal.TheVariants.{Code, Limit, Work, Room, Output, Input, Text, Entry, Mode, Log, Counts, Total, Path, Archive}
use Rattle.refusal.specs.declared.Shortage.TheVariants.{P, S, T, R, Q}
use Rattle.laws.proofs.Branch.{if-true, if-false}

module _ (number value : ℕ) where
  pub told-given : value < 2 ^ 56 → number + 256 * value ≡ told number value
  told-given h = ap (λ (n : ℕ). number + 256 * n) (sym (if-true (ltb value (2 ^ 56)) value (2 ^ 56 - 1) (lt-ltb value (2 ^ 56) h)))

  pub told-beyond : 2 ^ 56 ≤ value → number + 256 * (2 ^ 56 - 1) ≡ told number value
  told-beyond h = ap (λ (n : ℕ). number + 256 * n) (sym (if-false (ltb value (2 ^ 56)) value (2 ^ 56 - 1) (le-ltb value (2 ^ 56) h)))

-- with no value the number alone
pub told_none : (number : ℕ) → told number 0 ≡ number
told_none number =
    let e : number ≡ number + 256 * 0 = omega arith in
    sym (e ∙ told-given number 0 (omega arith))

-- each refusal's number is small
pub number-low : (e : Refusal) {n : ℕ} → n ≡ number_of e → n ≤ 18
number-low Code q = omega (arith, q)
number-low Limit q = omega (arith, q)
number-low Work q = omega (arith, q)
number-low (Room P) q = omega (arith, q)
number-low (Room S) q = omega (arith, q)
number-low (Room T) q = omega (arith, q)
number-low (Room R) q = omega (arith, q)
number-low (Room Q) q = omega (arith, q)
number-low Output q = omega (arith, q)
number-low Input q = omega (arith, q)
number-low Text q = omega (arith, q)
number-low (Entry offset) q = omega (arith, q)
number-low Mode q = omega (arith, q)
number-low Log q = omega (arith, q)
number-low Counts q = omega (arith, q)
number-low Total q = omega (arith, q)
number-low (Path offset) q = omega (arith, q)
number-low Archive q = omega (arith, q)

-- and none is 0
pub number-some : (e : Refusal) → number_of e ≡ 0 → ⊥
number-some Code z = omega (arith, z)
number-some Limit z = omega (arith, z)
number-some Work z = omega (arith, z)
number-some (Room P) z = omega (arith, z)
number-some (Room S) z = omega (arith, z)
number-some (Room T) z = omega (arith, z)
number-some (Room R) z = omega (arith, z)
number-some (Room Q) z = omega (arith, z)
number-some Output z = omega (arith, z)
number-some Input z = omega (arith, z)
number-some Text z = omega (arith, z)
number-some (Entry offset) z = omega (arith, z)
number-some Mode z = omega (arith, z)
number-some Log z = omega (arith, z)
number-some Counts z = omega (arith, z)
number-some Total z = omega (arith, z)
number-some (Path offset) z = omega (arith, z)
number-some Archive z = omega (arith, z)
