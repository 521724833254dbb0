-- The numbers of the parents, as the functions compute them. Assumes nothing.
use mathlib.Core.Path.{◌≡◌, refl, sym, ap, ◌∙◌}
use mathlib.Core.Bool.{◌&&◌}
use mathlib.Core.List.{List}
use Prim.Native.Nat.{ℕ, zero, suc, ◌+◌, ◌-◌, ◌*◌, ◌≤◌, ◌<◌}
use native.Mathlib.Decide.{ℕ_discrete}
use native.Mathlib.Omega.{arith}
use lib.Dec.{ltb, leb}
use lib.ListN.{length}
use borrow.Author.Tests.{ltb-true, lt-ltb, le-ltb, le-leb, lt-leb}
use Rattle.spec.specs.Lists.{if}
use Rattle.spec.specs.Rooms.{or_else}
use Rattle.lent.specs.Bytes.{num_at, Holds}
use Rattle.layout.specs.Rows as rows
use Rattle.parents.specs.Promises.{Number}
use Rattle.laws.proofs.Branch.{both, if-true, if-false}
use Rattle.laws.proofs.Members.{and_both}
use Rattle.steps.specs.Cursors.{clipped, up_to, first_cursor, next_cursor, last_cursor, Cursor, Asks}
use Rattle.layout.specs.Fields.{first_found_at, FIRST-FOUND}
use Rattle.layout.specs.Parts.{fields_place}
use Rattle.layout.specs.Records.{record_place, R-ENDS, R-NEXT, end_of}
use Rattle.layout.specs.Rows.{start_of}

-- ---- a link to a found parent

module _ (opened link : ℕ) where
  pub clip-none : link ≡ 0 → 0 ≡ clipped opened link
  unfolding clipped if
  clip-none e = rw e

  pub clip-late : opened < link → 0 ≡ clipped opened link
  unfolding clipped if
  clip-late l = rw (lt-ltb 0 link (omega arith), lt-leb link opened l)

  pub clip-there : (link ≡ 0 → ⊥) → link ≤ opened → 0x10000 + (link - 1) ≡ clipped opened link
  unfolding clipped if
  clip-there d l = rw (lt-ltb 0 link (omega arith), le-leb link opened l)

  pub clip-some : (clipped opened link ≡ 0 → ⊥) → (1 ≤ link) × (clipped opened link ≡ 0x10000 + (link - 1))
  unfolding clipped
  clip-some =
      both (λ (x : ℕ). (x ≡ 0 → ⊥) → (1 ≤ link) × (x ≡ 0x10000 + (link - 1))) (ltb 0 link && leb link opened)
      (λ e d. (ltb-true 0 link (and_both (ltb 0 link) (leb link opened) e).0, refl)) (λ _ d. absurd (d refl))

-- ---- a link to a direct parent

module _ (high link : ℕ) where
  pub up-low : link ≤ high → link ≡ up_to high link
  unfolding up_to
  up-low l = sym (if-true (leb link high) link 0 (le-leb link high l))

  pub up-high : high < link → 0 ≡ up_to high link
  unfolding up_to
  up-high l = sym (if-false (leb link high) link 0 (lt-leb link high l))

-- ---- one number or, where that is 0, another

or-first : (a b : ℕ) → (a ≡ 0 → ⊥) → a ≡ or_else a b
or-first zero b d = absurd (d refl)
or-first (suc a) b d = refl

-- ---- what they read

module _ {r q : List ℕ} {at : ℕ} where
  pub path-asked : {x : ℕ} → Asks r q at → 0x10000 ≤ at → Holds 4 r (record_place (at - 0x10000) + R-ENDS) x → (1 ≤ x) × (2 * x ≤ length q)
  unfolding end_of
  path-asked h l e = rw e.is (h.path l)

-- ---- what they give

module _ (w : List ℕ) (n b opened : ℕ) where
  pub found_first : {x y : ℕ} → Holds 4 w (fields_place n b + FIRST-FOUND) x → y ≡ clipped opened x → y ≡ clipped opened (first_found_at w n b)
  found_first h e = e ∙ ap (clipped opened) h.is

module _ (w : List ℕ) (n b opened high : ℕ) where
  pub first-direct : {x y : ℕ} → Number x (rows.first_at w b) 2 → y ≡ up_to high x → (y ≡ 0 → ⊥) → y ≡ first_cursor w n b opened high
  unfolding first_cursor
  first-direct h u d = or-first _ _ d ∙ ap (λ (a : ℕ). or_else a (clipped opened (first_found_at w n b))) (u ∙ ap (up_to high) h.is)

  pub first-other : {x l y : ℕ} → Number x (rows.first_at w b) 2 → l ≡ up_to high x → l ≡ 0 → y ≡ clipped opened (first_found_at w n b) → y ≡ first_cursor w n b opened high
  unfolding first_cursor
  first-other h u z e = e ∙ ap (λ (a : ℕ). or_else a (clipped opened (first_found_at w n b))) (sym z ∙ u ∙ ap (up_to high) h.is)

  module _ (r : List ℕ) (at : ℕ) where
    pub next-found : {x y : ℕ} → 0x10000 ≤ at → Holds 4 r (record_place (at - 0x10000) + R-NEXT) x → y ≡ clipped opened x → y ≡ next_cursor w r n b opened high at
    unfolding next_cursor if
    next-found l h e = rw (le-ltb at 0x10000 l) (e ∙ ap (clipped opened) h.is)

    pub next-direct : {x y : ℕ} → at < 0x10000 → Number x (rows.next_at w b at) 2 → y ≡ up_to high x → (y ≡ 0 → ⊥) → y ≡ next_cursor w r n b opened high at
    unfolding next_cursor if
    next-direct l h u d = rw (lt-ltb at 0x10000 l) (or-first _ _ d ∙ ap (λ (a : ℕ). or_else a (clipped opened (first_found_at w n b))) (u ∙ ap (up_to high) h.is))

    -- the highest has no direct parent behind it that is as high
    pub next_last : {y : ℕ} → at < 0x10000 → at ≡ high → Cursor w r n b at → y ≡ clipped opened (first_found_at w n b) → y ≡ next_cursor w r n b opened high at
    unfolding next_cursor if
    next_last l e c f = rw (lt-ltb at 0x10000 l) (f ∙ ap (λ (a : ℕ). or_else a (clipped opened (first_found_at w n b))) (none (ℕ_discrete (rows.next_at w b at) 0)))
      where
        none : Dec (rows.next_at w b at ≡ 0) → 0 ≡ up_to high (rows.next_at w b at)
        none (yes z) = sym z ∙ up-low high (rows.next_at w b at) (omega (arith, z))
        none (no d) = up-high high (rows.next_at w b at) (omega (arith, c.rises l d))

    pub next-other : {x k y : ℕ} → at < 0x10000 → Number x (rows.next_at w b at) 2 → k ≡ up_to high x → k ≡ 0 → y ≡ clipped opened (first_found_at w n b)
        → y ≡ next_cursor w r n b opened high at
    unfolding next_cursor if
    next-other l h u z e = rw (lt-ltb at 0x10000 l) (e ∙ ap (λ (a : ℕ). or_else a (clipped opened (first_found_at w n b))) (sym z ∙ u ∙ ap (up_to high) h.is))

module _ (r q : List ℕ) (at : ℕ) where
  pub last-direct : {x : ℕ} → at < 0x10000 → x ≡ start_of at → x ≡ last_cursor r q at
  unfolding last_cursor if
  last-direct l e = rw (lt-ltb at 0x10000 l) e

  pub last_found : {x y : ℕ} → 0x10000 ≤ at → Holds 4 r (record_place (at - 0x10000) + R-ENDS) x → Holds 2 q (2 * (x - 1)) y → y ≡ last_cursor r q at
  unfolding last_cursor if end_of
  last_found l h e = rw (le-ltb at 0x10000 l) (e.is ∙ ap (λ (x : ℕ). num_at 2 q (2 * (x - 1))) h.is)
