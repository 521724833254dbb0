-- The reader's entries are those that the bytes begin with, one after the other. Assumes nothing.
use Prim.Native.Nat.{ℕ, zero, suc, ◌+◌, ◌≤◌, ◌<◌}
use native.Mathlib.Omega.{arith}
use native.Mathlib.Nat.{add-zero}
use mathlib.Core.Path.{◌≡◌, refl, sym, ap, subst₂, ◌∙◌}
use mathlib.Core.List.{List, [], ◌∷◌}
use lib.Dec.{leb, leb-zero, leb-suc-zero, leb-suc-suc}
use lib.ListN.{length, drop, length-take, length-drop}
use borrow.Author.Tests.{leb-true, leb-false}
use Rattle.spec.specs.Forms.{announced, entry, behind}
use Rattle.spec.specs.Reader.{Piece, whole, cut, has, pieces}
use Rattle.spec.specs.BadEntries.{Whole}
use Rattle.laws.proofs.Branch.{both}

has-leb : (b : List ℕ) (n : ℕ) → has b n ≡ leb n (length b)
has-leb [] zero = refl
has-leb [] (suc n) = sym (leb-suc-zero n)
has-leb (x ∷ xs) zero = sym (leb-zero (suc (length xs)))
has-leb (x ∷ xs) (suc n) = has-leb xs n ∙ sym (leb-suc-suc n (length xs))

-- a whole entry's body has the bytes that were announced
pub body-long : (b : List ℕ) → Whole b → length (entry b).body ≡ announced b
body-long b w = simp (length-take, length-drop) (omega arith)

-- the bytes from `at` on, as entries
pub data Split : ℕ → List ℕ → List Piece → Type 0 where
  done : {at : ℕ} → Split at [] []
  cut_off : {at : ℕ} {rest : List ℕ} → 0 < length rest → (Whole rest → ⊥) → Split at rest (cut at ∷ [])
  more : {at : ℕ} {rest : List ℕ} {ps : List Piece} → Whole rest → Split (at + (6 + announced rest)) (behind rest) ps → Split at rest (whole at (entry rest) ∷ ps)

pub moved : {at to : ℕ} {b c : List ℕ} {ps : List Piece} → at ≡ to → b ≡ c → Split at b ps → Split to c ps
moved {ps} e f s = subst₂ (λ (k : ℕ) (l : List ℕ). Split k l ps) e f s

pub split-skip : (xs : List ℕ) (n at : ℕ) → n ≤ length xs → Split (at + n) (drop n xs) (pieces xs n at)
unfolding pieces
split-skip [] zero at h = done
split-skip [] (suc n) at h = absurd (omega arith)
split-skip (x ∷ xs) (suc n) at h = moved (omega arith) refl (split-skip xs n (suc at) (omega arith))
split-skip (x ∷ xs) zero at h =
    let b = x ∷ xs in
    let one : suc (5 + announced b) ≡ 6 + announced b = omega arith in
    moved (sym (add-zero at)) refl
    (both (Split at b) (has b (6 + announced b)) {x = whole at (entry b) ∷ pieces xs (5 + announced b) (suc at)}
    (λ on. let w : Whole b = leb-true _ _ (sym (has-leb b _) ∙ on) in
    more w (moved (omega arith) (ap (λ (n : ℕ). drop n b) one) (split-skip xs (5 + announced b) (suc at) (omega arith))))
    (λ off. cut_off (omega arith) (λ w. omega (arith, leb-false (6 + announced b) (length b) (sym (has-leb b _) ∙ off)))))

pub split : (b : List ℕ) → Split 0 b (pieces b 0 0)
split b = split-skip b 0 0 (omega arith)

-- from bytes that begin with a whole entry, and from bytes that do not
pub split-whole : {at : ℕ} {b : List ℕ} {ps : List Piece} → Split at b ps → Whole b
    → (qs : List Piece) × (ps ≡ whole at (entry b) ∷ qs) × Split (at + (6 + announced b)) (behind b) qs
split-whole done w = absurd (omega arith)
split-whole (cut_off h n) w = absurd (n w)
split-whole (more {ps} v s) w = (ps, refl, s)

pub split-cut : {at : ℕ} {b : List ℕ} {ps : List Piece} → Split at b ps → 0 < length b → (Whole b → ⊥) → ps ≡ cut at ∷ []
split-cut done h n = absurd (omega arith)
split-cut (cut_off k m) h n = refl
split-cut (more w s) h n = absurd (n w)

pub split-none : {at : ℕ} {b : List ℕ} {ps : List Piece} → Split at b ps → length b ≡ 0 → ps ≡ []
split-none done e = refl
split-none (cut_off h n) e = absurd (omega arith)
split-none (more w s) e = absurd (omega arith)

-- there is one way only
pub split-once : {at : ℕ} {b : List ℕ} {ps qs : List Piece} → Split at b ps → Split at b qs → qs ≡ ps
split-once done t = split-none t refl
split-once (cut_off h n) t = split-cut t h n
split-once (more {at} {rest} w s) t = let u = split-whole t w in u.1 ∙ ap {B = List Piece} (λ (l : List Piece). whole at (entry rest) ∷ l) (split-once s u.2)
