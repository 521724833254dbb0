-- Sums over the members of a list. Assumes nothing.
use mathlib.Core.Path.{◌≡◌, refl}
use mathlib.Core.Bool.{Bool}
use mathlib.Core.List.{List, [], ◌∷◌, ◌++◌}
use Prim.Native.Nat.{ℕ, ◌+◌, ◌*◌, ◌≤◌}
use native.Mathlib.Nat.{mul-zero, mul-suc}
use native.Mathlib.Omega.{arith}
use lib.ListN.{length}
use Rattle.spec.specs.Lists.{keep, total}
use Rattle.laws.specs.Lists.{In, here, there}
use Rattle.laws.proofs.Branch.{both}

module _ {A : Type 0} where
  pub total-none : (xs : List A) → total (λ (x : A). 0) xs ≡ 0
  total-none [] = refl
  total-none (x ∷ xs) = omega (arith, total-none xs)

  pub total-sum : (f g : A → ℕ) (xs : List A) → total (λ (x : A). f x + g x) xs ≡ total f xs + total g xs
  total-sum f g [] = refl
  total-sum f g (x ∷ xs) = omega (arith, total-sum f g xs)

  pub total-append : (f : A → ℕ) (xs ys : List A) → total f (xs ++ ys) ≡ total f xs + total f ys
  total-append f [] ys = omega arith
  total-append f (x ∷ xs) ys = omega (arith, total-append f xs ys)

  pub total-keep : (f : A → ℕ) (p : A → Bool) (xs : List A) → total f (keep p xs) ≤ total f xs
  total-keep f p [] = omega arith
  total-keep f p (x ∷ xs) =
      let later = total-keep f p xs in
      both (λ (l : List A). total f l ≤ f x + total f xs) (p x) (λ _. omega arith) (λ _. omega arith)

  pub total-less : (f g : A → ℕ) (xs : List A) → ((x : A) → In x xs → f x ≤ g x) → total f xs ≤ total g xs
  total-less f g [] h = omega arith
  total-less f g (x ∷ xs) h = omega (arith, h x here, total-less f g xs (λ y i. h y (there i)))

  -- c for each besides
  pub total-each : (c : ℕ) (f : A → ℕ) (xs : List A) → total (λ (x : A). c + f x) xs ≡ c * length xs + total f xs
  total-each c f [] = rw mul-zero (omega arith)
  total-each c f (x ∷ xs) = rw mul-suc (omega (arith, total-each c f xs))
