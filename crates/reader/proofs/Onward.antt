-- The entries from an offset on, and the run of 7s among them. Assumes nothing.
use mathlib.Core.Path.{◌≡◌, refl, sym, ap, ◌∙◌}
use mathlib.Core.Bool.{Bool, true, false}
use mathlib.Core.List.{List, [], ◌∷◌}
use Prim.Native.Nat.{ℕ, suc, ◌+◌, ◌-◌, ◌^◌, ◌≤◌, ◌<◌}
use native.Mathlib.Omega.{arith}
use native.Mathlib.Nat.{add-zero}
use native.Mathlib.Decide.{dec_lt}
use mir.Syntax.{w64}
use mir.Val.{Fits}
use Rattle.std.specs.Prelude.{Option, Some, None}
use lib.ListN.{length, drop, length-drop}
use lib.Seq.{drop-drop}
use Rattle.spec.specs.Forms.{wide_in, announced, entry, sort}
use Rattle.spec.specs.Reader.{Piece, whole, cut, sevens}
use Rattle.spec.specs.BadEntries.{Whole}
use Rattle.theorems.proofs.ReaderSplit.{Split, moved, split-skip, split-whole, split-cut, split-none, split-once}
use Rattle.reader.specs.Shapes.{from, way?, lead_at}
use Rattle.reader.specs.declared.lead.Lead.{Lead}
use Rattle.reader.proofs.Sorting.{other-ends, way-goes}
use Rattle.reader.proofs.Leads.{leads, short}

module _ (b : List ℕ) (at : ℕ) where
  abbrev rest : List ℕ
  rest = drop at b

  abbrev to : ℕ
  to = at + (6 + announced rest)

  pub split_from : Split at rest (from b at)
  unfolding from
  split_from = moved (add-zero at) refl (split-skip rest 0 at (omega arith))

module _ (b : List ℕ) (at : ℕ) where
  pub from-whole : Whole (rest b at) → from b at ≡ whole at (entry (rest b at)) ∷ from b (to b at)
  from-whole w =
      let t = split-whole (split_from b at) w in
      let s = moved refl (sym (drop-drop (6 + announced (rest b at)) at b)) (split_from b (to b at)) in
      t.1 ∙ ap {B = List Piece} (λ (ps : List Piece). whole at (entry (rest b at)) ∷ ps) (sym (split-once t.2 s))

  pub from_cut : at < length b → (Whole (rest b at) → ⊥) → from b at ≡ cut at ∷ []
  from_cut h n = split-cut (split_from b at) (omega (arith, length-drop at b)) n

  pub from_end : length b ≤ at → from b at ≡ []
  from_end h = split-none (split_from b at) (omega (arith, length-drop at b))

-- ---- sevens

-- so many of the 7s from `at` on stand before `to`
pub record Counting (b : List ℕ) (at n to : ℕ) : Type 0 where
  pub within : to ≤ length b
  pub few : n ≤ to
  pub sum : n + sevens (wide_in b) (from b to) ≡ sevens (wide_in b) (from b at)

pub count_none : (b : List ℕ) (at : ℕ) → at ≤ length b → Counting b at 0 at
count_none b at h = record { within = h; few = omega arith; sum = omega arith }

module _ {b : List ℕ} {at n to : ℕ} (h : Counting b at n to) {r : Option Lead} (e : r ≡ lead_at b to) where
  pub count_cut : r ≡ None → n ≡ sevens (wide_in b) (from b at)
  unfolding sevens
  count_cut q = by_left (dec_lt to (length b))
    where
      by_left : Dec (to < length b) → n ≡ sevens (wide_in b) (from b at)
      by_left (yes l) = omega (arith, ap (sevens (wide_in b)) (from_cut b to l (short b to e q)))
      by_left (no l) = omega (arith, ap (sevens (wide_in b)) (from_end b to (omega arith)))

  module _ {wide : Bool} (v : wide ≡ wide_in b) {w : Lead} (q : r ≡ Some w) {y : Bool} (t : y ≡ way? (sort wide w.kind)) where
    there : (x : Bool) → y ≡ x → way? (sort (wide_in b) w.kind) ≡ x
    there x e = rw (← v) (sym t ∙ e)

    pub count-other : y ≡ false → n ≡ sevens (wide_in b) (from b at)
    unfolding sevens
    count-other m =
        let l = leads b to e q in
        let z = other-ends (sort (wide_in b) w.kind) (there false m) (suc (sevens (wide_in b) (from b (to + (6 + announced (drop to b)))))) in
        let f : sevens (wide_in b) (from b to) ≡ 0 = ap (sevens (wide_in b)) (from-whole b to l.there) ∙ rw l.kind at z in
        omega arith

    pub count-more : y ≡ true → Counting b at (n + 1) (to + 6 + w.length)
    unfolding sevens
    count-more m =
        let l = leads b to e q in
        let on : to + 6 + w.length ≡ to + (6 + announced (drop to b)) = omega arith in
        let z = way-goes (sort (wide_in b) w.kind) (there true m) (suc (sevens (wide_in b) (from b (to + 6 + w.length)))) in
        let f : sevens (wide_in b) (from b to) ≡ suc (sevens (wide_in b) (from b (to + 6 + w.length))) = rw on (ap (sevens (wide_in b)) (from-whole b to l.there)) ∙ (rw l.kind at z) in
        record { within = omega arith; few = omega arith; sum = omega arith }

  module _ {w : Lead} (q : r ≡ Some w) where
    pub count_less : length b - (to + 6 + w.length) < length b - to
    count_less = let l = leads b to e q in omega arith

    pub count_fits : length b < 2 ^ 64 → Fits w64 (n + 1)
    count_fits f = let l = leads b to e q in omega arith
