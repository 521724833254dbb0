-- Members of lists, and of what the definitions make of lists. Assumes nothing.
use Prim.Native.Nat.{ℕ, zero, suc, ◌≤◌, ◌<◌}
use native.Mathlib.Omega.{arith}
use mathlib.Core.Path.{◌≡◌, refl, sym, ap, subst, ◌∙◌}
use mathlib.Core.Logic.{◌⊎◌, inl, inr}
use mathlib.Core.Bool.{Bool, true, false, ◌&&◌, ◌||◌, true≢false, or_assoc}
use mathlib.Core.List.{List, [], ◌∷◌, ◌++◌, map, append_assoc}
use lib.Dec.{eqb}
use lib.ListN.{length, get_or}
use borrow.Author.Tests.{eqb-true, eq-eqb}
use Rattle.spec.specs.Lists.{mem, some?, keep, gather}
pub use Rattle.laws.specs.Lists.{In, here, there}
use Rattle.laws.proofs.Branch.{both, if-true, if-false}

-- ---- tests

pub and_both : (a b : Bool) → a && b ≡ true → (a ≡ true) × (b ≡ true)
and_both true b e = (refl, e)
and_both false b e = (cc, cc)

pub and-true : (a b : Bool) → a ≡ true → b ≡ true → a && b ≡ true
and-true a b p q = rw (p, q)

pub or_right : (a b : Bool) → b ≡ true → a || b ≡ true
or_right true b e = refl
or_right false b e = e

pub or_cases : (a b : Bool) → a || b ≡ true → (a ≡ true) ⊎ (b ≡ true)
or_cases true b e = inl refl
or_cases false b e = inr e

-- two tests that imply each other
pub same_test : {a b : Bool} → (a ≡ true → b ≡ true) → (b ≡ true → a ≡ true) → a ≡ b
same_test {a = true} {b} p q = sym (p refl)
same_test {a = false} {b = true} p q = q refl
same_test {a = false} {b = false} p q = refl

-- ---- numbers that a test finds

pub mem-in : (a : ℕ) (xs : List ℕ) → mem a xs ≡ true → In a xs
mem-in a [] e = let z : ◌≡◌ {A = ℕ} 0 1 = cc in absurd (omega arith)
mem-in a (x ∷ xs) e = split (or_cases (eqb a x) (mem a xs) e) (mem-in a xs)
  where
    split : (eqb a x ≡ true) ⊎ (mem a xs ≡ true) → (mem a xs ≡ true → In a xs) → In a (x ∷ xs)
    split (inl q) ih = subst (λ (y : ℕ). In a (y ∷ xs)) (eqb-true a x q) here
    split (inr q) ih = there (ih q)

pub in_mem : (a : ℕ) {xs : List ℕ} → In a xs → mem a xs ≡ true
in_mem a (here {xs}) = ap (λ (b : Bool). b || mem a xs) (eq-eqb a a refl)
in_mem a (there {y} {xs} i) = or_right (eqb a y) _ (in_mem a i)

-- ---- of what a test is true of

module _ {A : Type 0} (f : A → Bool) where
  pub some_in : {x : A} {xs : List A} → f x ≡ true → In x xs → some? f xs ≡ true
  some_in e here = rw e
  some_in e (there {y} i) = or_right (f y) _ (some_in e i)

  pub in_some : (xs : List A) → some? f xs ≡ true → (a : A) × In a xs × (f a ≡ true)
  in_some [] e = absurd (true≢false (sym e))
  in_some (x ∷ xs) e = split (or_cases (f x) _ e) (in_some xs)
    where
      split : (f x ≡ true) ⊎ (some? f xs ≡ true) → (some? f xs ≡ true → (a : A) × In a xs × (f a ≡ true)) → (a : A) × In a (x ∷ xs) × (f a ≡ true)
      split (inl q) ih = (x, here, q)
      split (inr q) ih = let g = ih q in (g.0, there g.1, g.2)

-- ---- of joined lists

module _ {A : Type 0} {x : A} where
  pub in-only : {y : A} → In x (y ∷ []) → x ≡ y
  in-only here = refl
  in-only (there i) = elim i [ ]

  pub in_left : {xs : List A} → In x xs → (ys : List A) → In x (xs ++ ys)
  in_left here ys = here
  in_left (there i) ys = there (in_left i ys)

  pub in_right : (xs : List A) {ys : List A} → In x ys → In x (xs ++ ys)
  in_right [] i = i
  in_right (y ∷ xs) i = there (in_right xs i)

  pub in-cases : (xs : List A) {ys : List A} → In x (xs ++ ys) → In x xs ⊎ In x ys
  in-cases [] i = inr i
  in-cases (y ∷ xs) here = inl here
  in-cases (y ∷ xs) (there i) = next (in-cases xs i)
    where
      next : {ys : List A} → In x xs ⊎ In x ys → In x (y ∷ xs) ⊎ In x ys
      next (inl q) = inl (there q)
      next (inr q) = inr q

pub mem-append : (y : ℕ) (xs ys : List ℕ) → mem y (xs ++ ys) ≡ mem y xs || mem y ys
mem-append y [] ys = refl
mem-append y (x ∷ xs) ys = rw (mem-append y xs ys) (sym (or_assoc (eqb y x) (mem y xs) (mem y ys)))

pub mem-left : (a : ℕ) (xs ys : List ℕ) → mem a xs ≡ true → mem a (xs ++ ys) ≡ true
mem-left a xs ys h = in_mem a (in_left (mem-in a xs h) ys)

-- ---- of what is kept, and of what is gathered

module _ {A : Type 0} {x : A} (f : A → Bool) where
  kept-head : {y : A} {xs : List A} → f y ≡ true → In x (y ∷ keep f xs) → (In x (keep f xs) → (f x ≡ true) × In x xs) → (f x ≡ true) × In x (y ∷ xs)
  kept-head on here ih = (on, here)
  kept-head on (there i) ih = ((ih i).0, there (ih i).1)

  pub in-keep : (xs : List A) → In x (keep f xs) → (f x ≡ true) × In x xs
  in-keep [] i = elim i [ ]
  in-keep (y ∷ xs) i =
      both (λ (l : List A). In x l → (f x ≡ true) × In x (y ∷ xs)) (f y) (λ on j. kept-head on j (in-keep xs)) (λ _ j. ((in-keep xs j).0, there (in-keep xs j).1)) i

  pub keep-in : {xs : List A} → f x ≡ true → In x xs → In x (keep f xs)
  keep-in e (here {xs}) = both (In x) (f x) (λ _. here) (λ off. let z : ◌≡◌ {A = ℕ} 0 1 = cc in absurd (omega arith))
  keep-in e (there {y} {xs} i) = both (In x) (f y) (λ _. there (keep-in e i)) (λ _. keep-in e i)

module _ {A : Type 0} (f : A → Bool) where
  keep-none : (xs : List A) → ((x : A) → In x xs → f x ≡ false) → keep f xs ≡ []
  keep-none [] h = refl
  keep-none (x ∷ xs) h = if-false _ _ _ (h x here) ∙ keep-none xs (λ y i. h y (there i))

  -- those that pass come first
  pub keep-first : (xs ys : List A) → ((x : A) → In x xs → f x ≡ true) → ((y : A) → In y ys → f y ≡ false) → keep f (xs ++ ys) ≡ xs
  keep-first [] ys h k = keep-none ys k
  keep-first (x ∷ xs) ys h k = if-true _ _ _ (h x here) ∙ ap (λ (l : List A). x ∷ l) (keep-first xs ys (λ y i. h y (there i)) k)

pub length-keep : {A : Type 0} (f : A → Bool) (xs : List A) → length (keep f xs) ≤ length xs
length-keep f [] = omega arith
length-keep {A} f (x ∷ xs) =
    let ih = length-keep f xs in both (λ (l : List A). length l ≤ length (x ∷ xs)) (f x) (λ _. omega arith) (λ _. omega arith)

module _ {A B : Type 0} (f : A → List B) where
  pub gather_append : (xs ys : List A) → gather f (xs ++ ys) ≡ gather f xs ++ gather f ys
  gather_append [] ys = refl
  gather_append (x ∷ xs) ys = rw (gather_append xs ys) (sym (append_assoc (f x) (gather f xs) (gather f ys)))

  pub in-gather : {x : B} (xs : List A) → In x (gather f xs) → (a : A) × In a xs × In x (f a)
  in-gather [] i = elim i [ ]
  in-gather {x} (a ∷ xs) i = split (in-cases (f a) i) (in-gather xs)
    where
      split : In x (f a) ⊎ In x (gather f xs) → (In x (gather f xs) → (b : A) × In b xs × In x (f b)) → (b : A) × In b (a ∷ xs) × In x (f b)
      split (inl q) ih = (a, here, q)
      split (inr q) ih = let g = ih q in (g.0, there g.1, g.2)

  pub gather-in : {a : A} {b : B} {xs : List A} → In a xs → In b (f a) → In b (gather f xs)
  gather-in (here {xs}) j = in_left j (gather f xs)
  gather-in (there {y} i) j = in_right (f y) (gather-in i j)

pub in_map : {A B : Type 0} {y : B} (f : A → B) (xs : List A) → In y (map f xs) → (a : A) × In a xs × (y ≡ f a)
in_map f [] i = elim i [ ]
in_map f (a ∷ xs) here = (a, here, refl)
in_map f (a ∷ xs) (there i) = let g = in_map f xs i in (g.0, there g.1, g.2)

pub map-in : {A B : Type 0} {x : A} (f : A → B) {xs : List A} → In x xs → In (f x) (map f xs)
map-in f here = here
map-in f (there i) = there (map-in f i)

pub in_split : {A : Type 0} {x : A} {xs : List A} → In x xs → (before : List A) × (rest : List A) × (xs ≡ before ++ x ∷ rest)
in_split (here {xs}) = ([], xs, refl)
in_split {A} (there {y} i) = let g = in_split i in (y ∷ g.0, g.1, ap {B = List A} (λ (l : List A). y ∷ l) g.2)

-- by its place
pub in-at : {a : ℕ} {xs : List ℕ} → In a xs → (i : ℕ) × (i < length xs) × (get_or xs i 0 ≡ a)
in-at here = (0, omega arith, refl)
in-at (there i) = let g = in-at i in (suc g.0, omega (arith, g.1), g.2)

pub at_in : (xs : List ℕ) (i : ℕ) → i < length xs → In (get_or xs i 0) xs
at_in [] i h = absurd (omega arith)
at_in (x ∷ xs) zero h = here
at_in (x ∷ xs) (suc i) h = there (at_in xs i (omega arith))
