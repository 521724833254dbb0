-- Sums that fit, or do not. Assumes nothing.
use mathlib.Core.Path.{◌≡◌, sym, ap, ◌∙◌}
use Prim.Native.Nat.{ℕ, ◌+◌, ◌^◌, ◌≤◌, ◌<◌, max}
use native.Mathlib.Omega.{arith}
use native.Mathlib.Decide.{dec_lt}
use Rattle.std.specs.Prelude.{Option, Some, None, SomeIff}
use lib.Dec.{eqb, ltb}
use borrow.Author.Tests.{lt-ltb, le-ltb, ltb-true, ltb-false, eq-eqb, ne_eqb}
use Rattle.laws.proofs.Branch.{both, if-true, if-false}
use Rattle.theorems.proofs.ReaderPlaces.{never}
use Rattle.report.specs.Numbers.{summed, joined_at}

pub sum_is : (v : ℕ) → v < 2 ^ 64 → Some v ≡ summed v
sum_is v h = sym (if-true (ltb v (2 ^ 64)) (Some v) None (lt-ltb _ _ h))

pub sum-large : (v : ℕ) → 2 ^ 64 ≤ v → None ≡ summed v
sum-large v h = sym (if-false (ltb v (2 ^ 64)) (Some v) None (le-ltb _ _ h))

-- as `checked_add` says it
pub summed-so : (v : ℕ) {r : Option ℕ} → SomeIff r (v < 2 ^ 64) v → r ≡ summed v
summed-so v {r} h = by r h
  where
    by : (o : Option ℕ) → SomeIff o (v < 2 ^ 64) v → o ≡ summed v
    by None n = sum-large v (omega (arith, n))
    by (Some x) y = ap Some y.1 ∙ sum_is v y.0

-- what a sum says of its number
pub is_sum : (v : ℕ) {r : Option ℕ} {w : ℕ} → r ≡ summed v → r ≡ Some w → (w ≡ v) × (v < 2 ^ 64)
is_sum v {r} {w} e q =
    both (λ (s : Option ℕ). s ≡ Some w → (w ≡ v) × (v < 2 ^ 64)) (ltb v (2 ^ 64)) (λ on k. let same : w ≡ v = cc in (same, ltb-true _ _ on))
    (λ _ (k : None ≡ Some w). never (cc)) (sym e ∙ q)

pub large_sum : (v : ℕ) {r : Option ℕ} → r ≡ summed v → r ≡ None → 2 ^ 64 ≤ v
large_sum v {r} e q =
    both (λ (s : Option ℕ). s ≡ None → 2 ^ 64 ≤ v) (ltb v (2 ^ 64)) (λ _ (k : Some v ≡ None). never (cc))
    (λ off _. ltb-false _ _ off) (sym e ∙ q)

-- a third number
pub three-is : (x y z : ℕ) {w : ℕ} → (x + y < 2 ^ 64) × (w ≡ x + y) → {s : Option ℕ} → SomeIff s (w + z < 2 ^ 64) (w + z) → s ≡ summed (x + y + z)
three-is x y z {w} q k = summed-so (w + z) k ∙ ap (λ (v : ℕ). summed (v + z)) q.1

pub three-large : (x y z : ℕ) → (x + y < 2 ^ 64 → ⊥) → None ≡ summed (x + y + z)
three-large x y z n = sum-large (x + y + z) (by-test (dec_lt (x + y) (2 ^ 64)))
  where
    by-test : Dec (x + y < 2 ^ 64) → 2 ^ 64 ≤ x + y + z
    by-test (yes l) = absurd (n l)
    by-test (no l) = omega arith

-- ---- two totals at a place

module _ (i x y : ℕ) where
  pub joined-sum : {r : Option ℕ} → (i ≡ 11 → ⊥) → SomeIff r (x + y < 2 ^ 64) (x + y) → r ≡ summed (joined_at i x y)
  joined-sum n e = summed-so (x + y) e ∙ ap summed (sym (if-false (eqb i 11) (max x y) (x + y) (ne_eqb i 11 n)))

  pub joined-longest : {r : ℕ} → i ≡ 11 → r ≡ max x y → r < 2 ^ 64 → Some r ≡ summed (joined_at i x y)
  joined-longest {r} e m f = sum_is r f ∙ ap summed (m ∙ sym (if-true (eqb i 11) (max x y) (x + y) (eq-eqb i 11 e)))
