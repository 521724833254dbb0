-- Laws of the maps: what a key gives after an insertion. Assumes nothing.
use Prim.Native.Nat.{ℕ}
use mathlib.Core.Path.{◌≡◌, refl, sym, ap, subst, ◌∙◌}
use mathlib.Core.Bool.{Bool, true, false}
use mathlib.Core.List.{List, [], ◌∷◌}
use mathlib.Core.Option.{Option, some}
use lib.Dec.{eqb}
use borrow.Author.Tests.{eqb-true, eq-eqb}
use Rattle.spec.specs.Lists.{if, same}
use Rattle.spec.specs.Stacks.{Sym, before, constant, jumpdest, other, eq_sym, eq_syms}
use Rattle.laws.proofs.Branch.{both, if-true, if-false}
use Rattle.laws.proofs.Members.{and_both, and-true}
use Rattle.source.specs.Collections.{get, insert}
use Rattle.source.specs.Resolver.{same_pair, same_replay}

-- ---- the keys' tests are equality

pub record Tests {K : Type 0} (same_key : K → K → Bool) : Type 0 where
  pub equal : (a b : K) → same_key a b ≡ true → a ≡ b
  pub itself : (a : K) → same_key a a ≡ true

pub number-test : Tests eqb
number-test = record { equal = eqb-true; itself = λ a. eq-eqb a a refl }

pub path-test : Tests same
path-test = record { equal = eq; itself = it }
  where
    eq : (a b : List ℕ) → same a b ≡ true → a ≡ b
    eq [] [] e = refl
    eq [] (y ∷ ys) e = cc
    eq (x ∷ xs) [] e = cc
    eq (x ∷ xs) (y ∷ ys) e =
        let h = and_both (eqb x y) (same xs ys) e in
        let p = eqb-true x y h.0 in
        let q = eq xs ys h.1 in
        λ i. p i ∷ q i

    it : (a : List ℕ) → same a a ≡ true
    it [] = refl
    it (x ∷ xs) = and-true (eqb x x) (same xs xs) (eq-eqb x x refl) (it xs)

pub symbol-test : Tests eq_sym
symbol-test = record { equal = eq; itself = it }
  where
    eq : (a b : Sym) → eq_sym a b ≡ true → a ≡ b
    eq (before a) (before b) e = ap before (eqb-true a b e)
    eq (before a) (constant b) e = cc
    eq (before a) (jumpdest b) e = cc
    eq (before a) (other b) e = cc
    eq (constant a) (before b) e = cc
    eq (constant a) (constant b) e = ap constant (eqb-true a b e)
    eq (constant a) (jumpdest b) e = cc
    eq (constant a) (other b) e = cc
    eq (jumpdest a) (before b) e = cc
    eq (jumpdest a) (constant b) e = cc
    eq (jumpdest a) (jumpdest b) e = ap jumpdest (eqb-true a b e)
    eq (jumpdest a) (other b) e = cc
    eq (other a) (before b) e = cc
    eq (other a) (constant b) e = cc
    eq (other a) (jumpdest b) e = cc
    eq (other a) (other b) e = ap other (eqb-true a b e)

    it : (a : Sym) → eq_sym a a ≡ true
    it (before a) = eq-eqb a a refl
    it (constant a) = eq-eqb a a refl
    it (jumpdest a) = eq-eqb a a refl
    it (other a) = eq-eqb a a refl

pub state-test : Tests eq_syms
state-test = record { equal = eq; itself = it }
  where
    eq : (a b : List Sym) → eq_syms a b ≡ true → a ≡ b
    eq [] [] e = refl
    eq [] (y ∷ ys) e = cc
    eq (x ∷ xs) [] e = cc
    eq (x ∷ xs) (y ∷ ys) e =
        let h = and_both (eq_sym x y) (eq_syms xs ys) e in
        let p = symbol-test.equal x y h.0 in
        let q = eq xs ys h.1 in
        λ i. p i ∷ q i

    it : (a : List Sym) → eq_syms a a ≡ true
    it [] = refl
    it (x ∷ xs) = and-true (eq_sym x x) (eq_syms xs xs) (symbol-test.itself x) (it xs)

pub pair-test : Tests same_pair
pair-test = record {
  equal = λ a b e. let h = and_both (eqb a.0 b.0) (eqb a.1 b.1) e in
      let p = eqb-true a.0 b.0 h.0 in
      let q = eqb-true a.1 b.1 h.1 in
      λ i. (p i, q i);
  itself = λ a. and-true (eqb a.0 a.0) (eqb a.1 a.1) (eq-eqb a.0 a.0 refl) (eq-eqb a.1 a.1 refl);
}

pub replay-test : Tests same_replay
replay-test = record {
  equal = λ a b e. let h = and_both (same a.0 b.0) (eqb a.1 b.1) e in
      let p = path-test.equal a.0 b.0 h.0 in
      let q = eqb-true a.1 b.1 h.1 in
      λ i. (p i, q i);
  itself = λ a. and-true (same a.0 a.0) (eqb a.1 a.1) (path-test.itself a.0) (eq-eqb a.1 a.1 refl);
}

-- ---- after an insertion

module _ {K : Type 0} {same_key : K → K → Bool} (t : Tests same_key) where
  -- a key that is not the same as k
  differs : (j k l : K) → same_key j k ≡ false → same_key k l ≡ true → same_key j l ≡ false
  differs j k l off on = subst (λ (x : K). same_key j x ≡ false) (t.equal k l on) off

module _ {K W : Type 0} {same_key : K → K → Bool} (t : Tests same_key) where
  pub get-inserted : (k : K) (v : W) (m : List (K × W)) → get same_key k (insert same_key k v m) ≡ some v
  get-inserted k v [] = if-true _ _ _ (t.itself k)
  get-inserted k v (e ∷ es) =
      both (λ (l : List (K × W)). get same_key k l ≡ some v) (same_key k e.0)
      (λ on. if-true _ _ _ on) (λ off. if-false _ _ _ off ∙ get-inserted k v es)

  pub get_other : (j k : K) (v : W) (m : List (K × W)) → same_key j k ≡ false → get same_key j (insert same_key k v m) ≡ get same_key j m
  get_other j k v [] off = if-false _ _ _ off
  get_other j k v (e ∷ es) off =
      both (λ (l : List (K × W)). get same_key j l ≡ get same_key j (e ∷ es)) (same_key k e.0)
      (λ on. let d = differs t j k e.0 off on in if-false _ _ _ d ∙ sym (if-false _ _ _ d))
      (λ _. ap (λ (o : Option W). if (same_key j e.0) (some e.1) o) (get_other j k v es off))

  -- what every value of a map is
  abbrev pub Holds : (K → W → Type 0) → List (K × W) → Type 0
  Holds good m = (k : K) (v : W) → get same_key k m ≡ some v → good k v

  pub holds-inserted : (good : K → W → Type 0) (k : K) (v : W) (m : List (K × W)) → Holds good m → good k v → Holds good (insert same_key k v m)
  holds-inserted good k v m h g j w e = split (same_key j k) refl
    where
      split : (b : Bool) → same_key j k ≡ b → good j w
      split true on =
          let p = t.equal j k on in
          let q : some v ≡ some w = sym (get-inserted k v m) ∙ ap (λ (x : K). get same_key x (insert same_key k v m)) (sym p) ∙ e in
          let r : v ≡ w = cc in
          subst (λ (x : K). good x w) (sym p) (subst (good k) r g)
      split false off = h j w (sym (get_other j k v m off) ∙ e)
