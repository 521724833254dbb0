-- Small laws of tests and lists. Assumes nothing.
use Prim.Native.Nat.{ℕ}
use mathlib.Core.Path.{◌≡◌, refl, sym, ap, ◌∙◌}
use mathlib.Core.Bool.{Bool, true, false, ◌&&◌, ◌||◌, or_assoc, and-false, and_comm, and_assoc}
use mathlib.Core.List.{List, [], ◌∷◌, ◌++◌, map}
use lib.Dec.{eqb}
use Rattle.spec.specs.Lists.{if, last_of, keep, some?}
use Rattle.spec.specs.Stacks.{Sym, before, Stack, eq_sym, eq_syms, eq_stack}
use Rattle.laws.proofs.Branch.{both, if-true, if-false}
use Rattle.laws.proofs.Members.{In, here, there}
use Rattle.source.proofs.Stored.{stored}

module _ {A : Type 0} (f : A → Bool) where
  pub some-append : (xs ys : List A) → some? f (xs ++ ys) ≡ some? f xs || some? f ys
  some-append [] ys = refl
  some-append (x ∷ xs) ys = ap (λ (b : Bool). f x || b) (some-append xs ys) ∙ sym (or_assoc (f x) (some? f xs) (some? f ys))

  pub keep_append : (xs ys : List A) → keep f (xs ++ ys) ≡ keep f xs ++ keep f ys
  keep_append [] ys = refl
  keep_append (x ∷ xs) ys =
      both (λ (l : List A). l ≡ (if (f x) (x ∷ keep f xs) (keep f xs)) ++ keep f ys) (f x)
      (λ on. ap {B = List A} (λ (l : List A). x ∷ l) (keep_append xs ys) ∙ ap (λ (l : List A). l ++ keep f ys) (sym (if-true (f x) (x ∷ keep f xs) (keep f xs) on)))
      (λ off. keep_append xs ys ∙ ap (λ (l : List A). l ++ keep f ys) (sym (if-false (f x) (x ∷ keep f xs) (keep f xs) off)))

  pub keep_all : (xs : List A) → ((x : A) → In x xs → f x ≡ true) → keep f xs ≡ xs
  keep_all [] h = refl
  keep_all (x ∷ xs) h = if-true _ _ _ (h x here) ∙ ap {B = List A} (λ (l : List A). x ∷ l) (keep_all xs (λ y i. h y (there i)))

  pub keep-none : (xs : List A) → ((x : A) → In x xs → f x ≡ false) → keep f xs ≡ []
  keep-none [] h = refl
  keep-none (x ∷ xs) h = if-false _ _ _ (h x here) ∙ keep-none xs (λ y i. h y (there i))

pub map-append : {A B : Type 0} (f : A → B) (xs ys : List A) → map f (xs ++ ys) ≡ map f xs ++ map f ys
map-append f [] ys = refl
map-append {B} f (x ∷ xs) ys = ap {B = List B} (λ (l : List B). f x ∷ l) (map-append f xs ys)

-- ---- stored stacks are equal where the stacks are

append-some : (xs : List Sym) (y : Sym) → eq_syms [] (xs ++ y ∷ []) ≡ false
append-some [] y = refl
append-some (x ∷ xs) y = refl

append-none : (xs : List Sym) (y : Sym) → eq_syms (xs ++ y ∷ []) [] ≡ false
append-none [] y = refl
append-none (x ∷ xs) y = refl

same_ends : (xs ys : List Sym) (a b : ℕ) → eq_syms (xs ++ before a ∷ []) (ys ++ before b ∷ []) ≡ eqb a b && eq_syms xs ys
same_ends [] [] a b = refl
same_ends [] (y ∷ ys) a b = ap (λ (t : Bool). eq_sym (before a) y && t) (append-some ys (before b)) ∙ and-false (eq_sym (before a) y) ∙ sym (and-false (eqb a b))
same_ends (x ∷ xs) [] a b = ap (λ (t : Bool). eq_sym x (before b) && t) (append-none xs (before a)) ∙ and-false (eq_sym x (before b)) ∙ sym (and-false (eqb a b))
same_ends (x ∷ xs) (y ∷ ys) a b =
    ap (λ (t : Bool). eq_sym x y && t) (same_ends xs ys a b) ∙ sym (and_assoc (eq_sym x y) (eqb a b) (eq_syms xs ys))
    ∙ ap (λ (t : Bool). t && eq_syms xs ys) (and_comm (eq_sym x y) (eqb a b)) ∙ and_assoc (eqb a b) (eq_sym x y) (eq_syms xs ys)

pub same-stored : (s t : Stack) → eq_syms (stored s) (stored t) ≡ eq_stack s t
same-stored s t = same_ends s.above t.above s.base t.base

-- ---- the last of a joined path

pub last-append : (xs : List ℕ) (y : ℕ) (ys : List ℕ) → last_of (xs ++ y ∷ ys) ≡ last_of (y ∷ ys)
last-append [] y ys = refl
last-append (x ∷ []) y ys = refl
last-append (x ∷ z ∷ xs) y ys = last-append (z ∷ xs) y ys
