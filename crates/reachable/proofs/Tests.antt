-- Tests that are equal, and membership as a test. Assumes nothing.
use mathlib.Core.Path.{◌≡◌, refl}
use mathlib.Core.Logic.{◌⊎◌, inl, inr}
use mathlib.Core.Bool.{Bool, true, false, ◌||◌, or-true, or-false}
use mathlib.Core.List.{List, [], ◌∷◌}
use Prim.Native.Nat.{ℕ}
use native.Mathlib.Omega.{arith}
use lib.Dec.{eqb}
use borrow.Author.Tests.{eqb-true}
use Rattle.spec.specs.Lists.{mem}
pub use Rattle.laws.proofs.Members.{same_test, mem-append}

pub not-both : {A : Type 0} {b : Bool} → b ≡ true → b ≡ false → A
not-both p q = let z : ◌≡◌ {A = ℕ} 0 1 = cc in absurd (omega arith)

-- a test, one way or the other
pub decided : (b : Bool) → (b ≡ true) ⊎ (b ≡ false)
decided true = inl refl
decided false = inr refl

pub mem-one : (y x : ℕ) → mem y (x ∷ []) ≡ eqb y x
mem-one y x = or-false (eqb y x)

-- a number that is in a list already adds nothing to it
pub mem-again : (y x : ℕ) (xs : List ℕ) → mem x xs ≡ true → mem y (x ∷ []) || mem y xs ≡ mem y xs
mem-again y x xs h = rw (mem-one y x) (split (decided (eqb y x)))
  where
    split : (eqb y x ≡ true) ⊎ (eqb y x ≡ false) → eqb y x || mem y xs ≡ mem y xs
    split (inl p) = rw (eqb-true y x p, h) (or-true (eqb x x))
    split (inr p) = rw p
