-- The laws of the walk of document 01 at one place of the code. What holds along it is in Walking, of theorems. Assumes nothing.
use mathlib.Core.Path.{◌≡◌, refl, ap, ◌∙◌, sym}
use mathlib.Core.List.{List, [], ◌∷◌}
use Prim.Native.Nat.{ℕ, zero, suc, ◌+◌, ◌≤◌, ◌<◌}
use native.Mathlib.Nat.{add-zero}
use native.Mathlib.Numerals.{add-one}
use native.Mathlib.Decide.{dec_le}
use native.Mathlib.Omega.{arith}
use borrow.Author.Tests.{le-leb, lt-leb}
use lib.ListN.{length, get_or, drop, length-drop, drop_of_length-le}
use lib.Seq.{drop-cons, drop-drop}
use Rattle.spec.specs.Opcodes.{argument}
use Rattle.spec.specs.Walk.{Ins, ins, walk, instructions}
use Rattle.laws.proofs.Branch.{if-true, if-false}

-- the instruction that the bytes from a place on spell, whole or not
abbrev pub ins_at : List ℕ → ℕ → Ins
ins_at code at = ins at (get_or code at 0) (drop (at + 1) code)

-- the place after it
abbrev pub next : List ℕ → ℕ → ℕ
next code at = at + suc (argument (get_or code at 0))

-- bytes that belong to the instruction before are passed over
pub walk-skip : (xs : List ℕ) (pc k : ℕ) → walk xs pc k ≡ walk (drop k xs) (pc + k) 0
unfolding walk
walk-skip [] pc zero = refl
walk-skip [] pc (suc k) = refl
walk-skip (b ∷ xs) pc zero = ap (λ (p : ℕ). walk (b ∷ xs) p 0) (sym (add-zero pc))
walk-skip (b ∷ xs) pc (suc k) =
    let e : suc pc + k ≡ pc + suc k = omega arith in
    walk-skip xs (suc pc) k ∙ ap (λ (p : ℕ). walk (drop k xs) p 0) e

walk-nil : (pc : ℕ) → walk [] pc 0 ≡ []
unfolding walk
walk-nil pc = refl

module _ (b : ℕ) (rest : List ℕ) (pc : ℕ) where
  walk-cons : argument b ≤ length rest → walk (b ∷ rest) pc 0 ≡ ins pc b rest ∷ walk (drop (argument b) rest) (suc pc + argument b) 0
  unfolding walk
  walk-cons h = if-true _ _ _ (le-leb _ _ h) ∙ ap {B = List Ins} (λ is. ins pc b rest ∷ is) (walk-skip rest (suc pc) (argument b))

  walk-stop : length rest < argument b → walk (b ∷ rest) pc 0 ≡ []
  unfolding walk
  walk-stop h = if-false _ _ _ (lt-leb _ _ h)

module _ (code : List ℕ) (at : ℕ) where
  -- a whole instruction stands there: it is the walk's first, and the walk goes on after it
  pub walk-whole : next code at ≤ length code → walk (drop at code) at 0 ≡ ins_at code at ∷ walk (drop (next code at) code) (next code at) 0
  walk-whole h =
      let l : at < length code = omega arith in
      let r : argument (get_or code at 0) ≤ length (drop (suc at) code) = simp length-drop (omega arith) in
      let e : suc at + argument (get_or code at 0) ≡ next code at = omega arith in
      rw (drop-cons code at 0 l)
      (walk-cons (get_or code at 0) (drop (suc at) code) at r ∙ rw (drop-drop (argument (get_or code at 0)) (suc at) code, e, add-one at))

  -- the code has ended, or ends before the instruction does
  pub walk_end : length code < next code at → walk (drop at code) at 0 ≡ []
  walk_end h = go (dec_le (length code) at)
    where
      go : Dec (length code ≤ at) → walk (drop at code) at 0 ≡ []
      go (yes p) = rw (drop_of_length-le code p) (walk-nil at)
      go (no p) =
          let l : at < length code = omega arith in
          let r : length (drop (suc at) code) < argument (get_or code at 0) = simp length-drop (omega arith) in
          rw (drop-cons code at 0 l) (walk-stop (get_or code at 0) (drop (suc at) code) at r)

pub instructions-walk : (code : List ℕ) → instructions code ≡ walk (drop 0 code) 0 0
unfolding instructions
instructions-walk code = refl
