-- How often an address is in a list: in joined lists, at most, and at all. Assumes nothing.
use mathlib.Core.Path.{◌≡◌, refl}
use mathlib.Core.Bool.{Bool, true, false, not, ◌||◌}
use mathlib.Core.List.{List, [], ◌∷◌, ◌++◌}
use Prim.Native.Nat.{ℕ, suc, ◌+◌, ◌≤◌}
use native.Mathlib.Nat.{zero-add}
use native.Mathlib.Omega.{arith}
use lib.Dec.{eqb}
use lib.ListN.{length}
use borrow.Author.Tests.{eq-eqb, ne_eqb}
use Rattle.spec.specs.Lists.{if, mem}
use Rattle.laws.proofs.Branch.{both, if-true, if-false}
use Rattle.steps.specs.Paths.{occurs}

pub occurs-append : (a : ℕ) (xs ys : List ℕ) → occurs a (xs ++ ys) ≡ occurs a xs + occurs a ys
unfolding occurs
occurs-append a [] ys = omega arith
occurs-append a (x ∷ xs) ys = omega (arith, occurs-append a xs ys)

pub occurs-most : (a : ℕ) (xs : List ℕ) → occurs a xs ≤ length xs
unfolding occurs
occurs-most a [] = omega arith
occurs-most a (x ∷ xs) =
    let h = occurs-most a xs in
    both (λ (k : ℕ). k + occurs a xs ≤ suc (length xs)) (eqb a x) (λ _. omega arith) (λ _. omega arith)

-- in a list of one
pub occurs-one : (a : ℕ) → occurs a (a ∷ []) ≡ 1
unfolding occurs
occurs-one a = omega (arith, if-true {A = ℕ} (eqb a a) 1 0 (eq-eqb a a refl))

pub occurs-other : (a x : ℕ) → (a ≡ x → ⊥) → occurs a (x ∷ []) ≡ 0
unfolding occurs
occurs-other a x ne = omega (arith, if-false {A = ℕ} (eqb a x) 1 0 (ne_eqb a x ne))

-- at all
or-more : (b m : Bool) (k : ℕ) → not (eqb k 0) ≡ m → not (eqb (if b 1 0 + k) 0) ≡ b || m
unfolding if
or-more true m k e = rw (ne_eqb (1 + k) 0 (λ z. omega arith))
or-more false m k e = rw zero-add e

pub occurs-mem : (a : ℕ) (xs : List ℕ) → not (eqb (occurs a xs) 0) ≡ mem a xs
unfolding occurs
occurs-mem a [] = refl
occurs-mem a (x ∷ xs) = or-more (eqb a x) (mem a xs) (occurs a xs) (occurs-mem a xs)
