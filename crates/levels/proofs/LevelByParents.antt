-- Document 01's level, a parent at a time. Assumes nothing.
use mathlib.Core.Path.{◌≡◌, refl}
use mathlib.Core.Bool.{Bool, true, false}
use mathlib.Core.List.{List, [], ◌∷◌}
use Prim.Native.Nat.{ℕ, zero, suc, ◌≤◌, ◌<◌}
use lib.Dec.{ltb}
use borrow.Author.Tests.{lt-ltb, le-ltb}
use Rattle.spec.specs.Lists.{last_of, keep}
use Rattle.spec.specs.Search.{St, Turn, Level, Parent, spend, parents, tries, level}
use Rattle.laws.proofs.Branch.{if-true, if-false}
use Rattle.theorems.proofs.Growth.{Later, later}
use Rattle.theorems.proofs.Carried.{carry-nowhere, carry-follow, carry-tries, carry-level}
use Rattle.enter.specs.Enters.{going, onward}
use Rattle.levels.specs.Levels.{deeper_by}

module _ (limit : ℕ) (t : Turn) (left : ℕ) (l : Level) where
  -- what is done with the parents ps of the level
  abbrev pub trying : List Parent → St → St
  trying ps = tries limit (going t (deeper_by limit t left) left l) l.path ps

  -- with the parent p
  abbrev pub onto : Parent → St → St
  onto p = onward t (deeper_by limit t left) left l p

  pub trying-none : (s : St) → trying [] s ≡ s
  unfolding tries
  trying-none s = refl

  -- it passes the limit, or not
  pub trying-passes : (p : Parent) (ps : List Parent) (s : St) → limit < suc s.energy → trying (p ∷ ps) s ≡ spend s
  unfolding tries
  trying-passes p ps s h = if-true (ltb limit (suc s.energy)) (spend s) (trying ps (onto p (spend s))) (lt-ltb limit (suc s.energy) h)

  pub trying-next : (p : Parent) (ps : List Parent) (s : St) → suc s.energy ≤ limit → trying (p ∷ ps) s ≡ trying ps (onto p (spend s))
  unfolding tries
  trying-next p ps s h = if-false (ltb limit (suc s.energy)) (spend s) (trying ps (onto p (spend s))) (le-ltb limit (suc s.energy) h)

-- at every weight
pub level-tries : (limit : ℕ) (t : Turn) (left : ℕ) (l : Level) (s : St) → level limit t left l s ≡ trying limit t left l (parents t (last_of l.path) s) s
unfolding level
level-tries limit t zero l s = refl
level-tries limit t (suc w) l s = refl

-- it only adds needs
pub trying-later : (limit : ℕ) (t : Turn) (left : ℕ) (l : Level) (ps : List Parent) (s : St) → Later s (trying limit t left l ps s)
trying-later limit t zero l ps s = carry-tries Later later limit (going t (deeper_by limit t zero) zero l) (λ p. carry-nowhere Later later t) l.path ps s
trying-later limit t (suc w) l ps s =
    carry-tries Later later limit (going t (deeper_by limit t (suc w)) (suc w) l) (carry-follow Later later t (level limit t w) (carry-level Later later limit t w) l) l.path ps s

pub deeper-later : (limit : ℕ) (t : Turn) (n : ℕ) (l : Level) (s : St) → Later s (deeper_by limit t n l s)
deeper-later limit t zero l s = later.keeps s
deeper-later limit t (suc w) l s = carry-level Later later limit t w l s

-- ---- those that are kept

module _ {A : Type 0} (f : A → Bool) (x : A) (xs : List A) where
  pub keep-this : f x ≡ true → keep f (x ∷ xs) ≡ x ∷ keep f xs
  keep-this e = if-true (f x) (x ∷ keep f xs) (keep f xs) e

  pub keep-not : f x ≡ false → keep f (x ∷ xs) ≡ keep f xs
  keep-not e = if-false (f x) (x ∷ keep f xs) (keep f xs) e
