-- The distinct numbers of a list: those of the list, each once; and whether there is one or are several. Assumes nothing.
use Prim.Native.Nat.{ℕ, ◌+◌, ◌≤◌}
use native.Mathlib.Omega.{arith}
use native.Mathlib.Nat.{zero-add}
use mathlib.Core.Path.{◌≡◌, refl, sym, ap, ap₂, subst, ◌∙◌}
use mathlib.Core.Bool.{Bool, true, false, not, ◌&&◌}
use mathlib.Core.List.{List, [], ◌∷◌}
use lib.Dec.{eqb}
use lib.ListN.{length}
use borrow.Author.Tests.{eqb-true, eqb-false, eq-eqb, ne_eqb, not-true, not-false}
use Rattle.spec.specs.Lists.{keep}
use Rattle.spec.specs.Ending.{all_are}
use Rattle.spec.specs.Entries.{flag}
use Rattle.spec.specs.Counting.{count, distinct}
use Rattle.laws.proofs.Branch.{both, if-false}
use Rattle.laws.proofs.Members.{In, here, there, and_both, in-keep, keep-in}
use Rattle.theorems.proofs.ReaderPlaces.{never}

-- all but the x
abbrev others : ℕ → List ℕ → List ℕ
others x = keep (λ (y : ℕ). not (eqb x y))

-- ---- they are those of the list

pub in-distinct : (x : ℕ) (xs : List ℕ) → In x (distinct xs) → In x xs
unfolding distinct
in-distinct x [] i = elim i [ ]
in-distinct x (y ∷ xs) here = here
in-distinct x (y ∷ xs) (there i) = there (in-distinct x xs (in-keep (λ (z : ℕ). not (eqb y z)) (distinct xs) i).1)

pub distinct-in : (x : ℕ) (xs : List ℕ) → In x xs → In x (distinct xs)
unfolding distinct
distinct-in x [] i = elim i [ ]
distinct-in x (y ∷ xs) here = here
distinct-in x (y ∷ xs) (there i) = by-test (eqb y x) refl (distinct-in x xs i)
  where
    by-test : (t : Bool) → eqb y x ≡ t → In x (distinct xs) → In x (y ∷ others y (distinct xs))
    by-test true e j = subst (λ (z : ℕ). In x (z ∷ others y (distinct xs))) (sym (eqb-true y x e)) here
    by-test false e j = there (keep-in (λ (z : ℕ). not (eqb y z)) (ap not e) j)

-- ---- each is there once

none_kept : (x : ℕ) (ys : List ℕ) → count (eqb x) (others x ys) ≡ 0
none_kept x [] = refl
none_kept x (y ∷ ys) =
    both (λ (l : List ℕ). count (eqb x) l ≡ 0) (not (eqb x y))
    (λ on. ap₂ (λ (b : Bool) (n : ℕ). flag b + n) (not-true (eqb x y) on) (none_kept x ys)) (λ _. none_kept x ys)

others-kept : (x y : ℕ) → (x ≡ y → ⊥) → (zs : List ℕ) → count (eqb x) (others y zs) ≡ count (eqb x) zs
others-kept x y n [] = refl
others-kept x y n (z ∷ zs) =
    both (λ (l : List ℕ). count (eqb x) l ≡ flag (eqb x z) + count (eqb x) zs) (not (eqb y z))
    (λ _. ap (λ (k : ℕ). flag (eqb x z) + k) (others-kept x y n zs))
    (λ off. let same : y ≡ z = eqb-true y z (not-false (eqb y z) off) in
    let other = ne_eqb x z (λ e. n (e ∙ sym same)) in
    others-kept x y n zs ∙ sym (ap (λ (b : Bool). flag b + count (eqb x) zs) other ∙ zero-add (count (eqb x) zs)))

in_tail : {x y : ℕ} {xs : List ℕ} → (x ≡ y → ⊥) → In x (y ∷ xs) → In x xs
in_tail n here = absurd (n refl)
in_tail n (there i) = i

pub distinct-once : (x : ℕ) (xs : List ℕ) → In x xs → count (eqb x) (distinct xs) ≡ 1
unfolding distinct
distinct-once x [] i = elim i [ ]
distinct-once x (y ∷ xs) i = by-test (eqb x y) refl i (distinct-once x xs)
  where
    by-test : (t : Bool) → eqb x y ≡ t → In x (y ∷ xs) → (In x xs → count (eqb x) (distinct xs) ≡ 1) → flag (eqb x y) + count (eqb x) (others y (distinct xs)) ≡ 1
    by-test true e j ih =
        ap₂ (λ (b : Bool) (n : ℕ). flag b + n) e (ap (λ (w : ℕ). count (eqb x) (others w (distinct xs))) (sym (eqb-true x y e)) ∙ none_kept x (distinct xs))
    by-test false e j ih =
        let n = eqb-false x y e in
        ap₂ (λ (b : Bool) (k : ℕ). flag b + k) e (others-kept x y n (distinct xs) ∙ ih (in_tail n j))

-- ---- one, or several

no-others : (t : ℕ) (us : List ℕ) → ((u : ℕ) → In u us → t ≡ u) → others t us ≡ []
no-others t [] h = refl
no-others t (u ∷ us) h = if-false (not (eqb t u)) _ _ (ap not (eq-eqb t u (h u here))) ∙ no-others t us (λ w i. h w (there i))

all_same : (t : ℕ) (ts : List ℕ) → all_are t ts ≡ true → (u : ℕ) → In u ts → t ≡ u
all_same t (x ∷ ts) e u here = eqb-true t x (and_both (eqb t x) _ e).0
all_same t (x ∷ ts) e u (there i) = all_same t ts (and_both (eqb t x) _ e).1 u i
all_same t [] e u x'' = elim x'' [ ]

one-other : (t : ℕ) (ts : List ℕ) → all_are t ts ≡ false → (u : ℕ) × In u ts × (t ≡ u → ⊥)
one-other t [] e = never (cc)
one-other t (x ∷ ts) e = by-test (eqb t x) refl e (one-other t ts)
  where
    by-test : (b : Bool) → eqb t x ≡ b → b && all_are t ts ≡ false → (all_are t ts ≡ false → (u : ℕ) × In u ts × (t ≡ u → ⊥)) → (u : ℕ) × In u (x ∷ ts) × (t ≡ u → ⊥)
    by-test false q f ih = (x, here, eqb-false t x q)
    by-test true q f ih = let k = ih f in (k.0, there k.1, k.2)

pub distinct-one : (t : ℕ) (ts : List ℕ) → all_are t ts ≡ true → distinct (t ∷ ts) ≡ t ∷ []
unfolding distinct
distinct-one t ts e = ap {B = List ℕ} (λ (l : List ℕ). t ∷ l) (no-others t (distinct ts) (λ u i. all_same t ts e u (in-distinct u ts i)))

has_one : {u : ℕ} {us : List ℕ} → In u us → 1 ≤ length us
has_one here = omega arith
has_one (there i) = omega arith

pub distinct-several : (t : ℕ) (ts : List ℕ) → all_are t ts ≡ false → 2 ≤ length (distinct (t ∷ ts))
unfolding distinct
distinct-several t ts e =
    let k = one-other t ts e in
    let i : In k.0 (others t (distinct ts)) = keep-in (λ (z : ℕ). not (eqb t z)) (ap not (ne_eqb t k.0 k.2)) (distinct-in k.0 ts k.1) in
    omega (arith, has_one i)
