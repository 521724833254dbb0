-- The list of the blocks' starts from its end: its last entry is the last address at which a block starts. Assumes nothing.
use mathlib.Core.Path.{◌≡◌, refl, sym, ap, ◌∙◌}
use mathlib.Core.List.{List, [], ◌∷◌, ◌++◌, append-nil, map-append, nil≢cons, head-eq_of_cons-eq, tail-eq_of_cons-eq}
use Prim.Native.Nat.{ℕ, zero, suc, ◌+◌, ◌<◌}
use native.Mathlib.Nat.{zero-add}
use native.Mathlib.Omega.{arith}
use native.Mathlib.Decide.{ℕ_discrete}
use Rattle.spec.specs.Blocks.{Block, starts}
use Rattle.layout.specs.Rows.{tag_at, starts_at}
use Rattle.initial.specs.Rows.{row_blocks, blocks_from}
use Rattle.initial.proofs.Rows.{from-split, here-empty, here-block}

-- ---- lists from their end

not-snoc : (xs : List ℕ) (b : ℕ) → [] ≡ xs ++ b ∷ [] → ⊥
not-snoc [] b e = nil≢cons e
not-snoc (x ∷ xs) b e = nil≢cons e

same-snoc : (xs ys : List ℕ) (a b : ℕ) → xs ++ a ∷ [] ≡ ys ++ b ∷ [] → (xs ≡ ys) × (a ≡ b)
same-snoc [] [] a b e = (refl, head-eq_of_cons-eq e)
same-snoc [] (y ∷ ys) a b e = absurd (not-snoc ys b (tail-eq_of_cons-eq e))
same-snoc (x ∷ xs) [] a b e = absurd (not-snoc xs a (sym (tail-eq_of_cons-eq e)))
same-snoc (x ∷ xs) (y ∷ ys) a b e =
    let r = same-snoc xs ys a b (tail-eq_of_cons-eq e) in
    let h : x ≡ y = head-eq_of_cons-eq e in
    (rw (h, r.0), r.1)

-- ---- the entries

module _ (w : List ℕ) (n : ℕ) where
  pub starts_none : (i : ℕ) → starts_at w n i 0 ≡ []
  unfolding starts_at
  starts_none i = refl

-- ---- the blocks that start below an address

module _ (w : List ℕ) where
  starts-below : (a : ℕ) → starts (blocks_from w 0 (suc a)) ≡ starts (blocks_from w 0 a) ++ starts (row_blocks w a)
  unfolding blocks_from
  starts-below a =
      let e : suc a ≡ a + 1 = omega arith in
      ap (λ (m : ℕ). starts (blocks_from w 0 m)) e ∙ rw (from-split w a 1 0, zero-add, append-nil) (map-append (λ (b : Block). b.start) (blocks_from w 0 a) (row_blocks w a))

  below-empty : (a : ℕ) → tag_at w a ≡ 0 → starts (blocks_from w 0 (suc a)) ≡ starts (blocks_from w 0 a)
  below-empty a z = starts-below a ∙ rw (here-empty w a z, append-nil)

  below-block : (a : ℕ) → (tag_at w a ≡ 0 → ⊥) → starts (blocks_from w 0 (suc a)) ≡ starts (blocks_from w 0 a) ++ a ∷ []
  below-block a h = starts-below a ∙ rw (here-block w a h)

  -- past b no block starts below a, and xs are the starts before b
  pub record Last (a : ℕ) (xs : List ℕ) (b : ℕ) : Type 0 where
    pub below : b < a
    pub none-past : (x : ℕ) → b < x → x < a → tag_at w x ≡ 0
    pub before : starts (blocks_from w 0 b) ≡ xs

  pub last-start : (a : ℕ) (xs : List ℕ) (b : ℕ) → starts (blocks_from w 0 a) ≡ xs ++ b ∷ [] → Last a xs b
  unfolding blocks_from
  last-start zero xs b e = absurd (not-snoc xs b e)
  last-start (suc a) xs b e = go (ℕ_discrete (tag_at w a) 0) (λ z. last-start a xs b (sym (below-empty a z) ∙ e))
    where
      past : Last a xs b → tag_at w a ≡ 0 → (x : ℕ) → b < x → x < suc a → Dec (x ≡ a) → tag_at w x ≡ 0
      past r z x h g (yes q) = rw q z
      past r z x h g (no n) = r.none-past x h (omega arith)

      go : Dec (tag_at w a ≡ 0) → (tag_at w a ≡ 0 → Last a xs b) → Last (suc a) xs b
      go (yes z) lower =
          let r = lower z in
          record { below = omega (arith, r.below); none-past = λ x h g. past r z x h g (ℕ_discrete x a); before = r.before }
      go (no n) lower =
          let r = same-snoc (starts (blocks_from w 0 a)) xs a b (sym (below-block a n) ∙ e) in
          record { below = omega (arith, r.1); none-past = λ x h g. absurd (omega (arith, r.1)); before = rw (← r.1) r.0 }

  pub no_start : (a : ℕ) → starts (blocks_from w 0 a) ≡ [] → (x : ℕ) → x < a → tag_at w x ≡ 0
  no_start zero e x h = absurd (omega arith)
  no_start (suc a) e x h = go (ℕ_discrete (tag_at w a) 0) (ℕ_discrete x a) (λ z. no_start a (sym (below-empty a z) ∙ e) x)
    where
      go : Dec (tag_at w a ≡ 0) → Dec (x ≡ a) → (tag_at w a ≡ 0 → x < a → tag_at w x ≡ 0) → tag_at w x ≡ 0
      go (yes z) (yes q) lower = rw q z
      go (yes z) (no n) lower = lower z (omega arith)
      go (no n) d lower = absurd (not-snoc (starts (blocks_from w 0 a)) a (sym e ∙ below-block a n))
