-- The laws of the rows: what they depend on, where they are split, which addresses start a block, and which block it is. Assumes nothing.
use mathlib.Core.Path.{◌≡◌, refl, sym, ap, ap₂, ◌∙◌}
use mathlib.Core.Logic.{◌⊎◌, inl, inr}
use mathlib.Core.Bool.{true, false, not, ◌||◌, or-false}
use mathlib.Core.List.{List, [], ◌∷◌, ◌++◌, append_assoc, map-append}
use Prim.Native.Nat.{ℕ, zero, suc, ◌+◌, ◌-◌, ◌≤◌, ◌<◌}
use native.Mathlib.Nat.{add-zero, zero-add, suc-add}
use native.Mathlib.Omega.{arith}
use native.Mathlib.Decide.{dec_lt}
use lib.Dec.{eqb}
use lib.ListN.{take, drop}
use borrow.Author.Tests.{eqb-true, eqb-false, eq-eqb, ne_eqb}
use Rattle.spec.specs.Lists.{mem}
use Rattle.spec.specs.Blocks.{Block, starts}
use Rattle.lent.specs.Bytes.{num_at}
use Rattle.lent.proofs.Parts.{part-prefix, part-suffix, part-within}
use Rattle.lent.proofs.Numbers.{num-within}
use Rattle.laws.proofs.Branch.{both, if-true, if-false}
use Rattle.laws.proofs.Members.{In, here, mem-append, in-only, in_right, in-cases}
use Rattle.layout.specs.Parts.{ROW, row_place, rows_end, SameRows}
use Rattle.layout.specs.Rows.{END, TO, OTHER, tag_at}
use Rattle.initial.specs.Rows.{block_at, row_blocks, blocks_from, blocks_at}

-- a part within a part that is the same
pub part_at : (l m : List ℕ) (k i : ℕ) → take k (drop i l) ≡ take k (drop i m) → (n j : ℕ) → i ≤ j → j + n ≤ i + k → take n (drop j l) ≡ take n (drop j m)
part_at l m k i e n j h g =
    let s : i + (j - i) ≡ j = omega arith in
    rw s at (part-within l m k i i e n (j - i) (omega arith))

-- ---- what they depend on: a row's own bytes, and of these the kind, the end and the sides

module _ (w v : List ℕ) (a : ℕ) where
  pub here-fields : tag_at w a ≡ tag_at v a → num_at 2 w (row_place a + END) ≡ num_at 2 v (row_place a + END)
      → num_at 2 w (row_place a + TO) ≡ num_at 2 v (row_place a + TO) → num_at 2 w (row_place a + OTHER) ≡ num_at 2 v (row_place a + OTHER) → row_blocks w a ≡ row_blocks v a
  unfolding row_blocks
  here-fields k e t f = rw (k, e, t, f)

  module _ (e : take ROW (drop (row_place a) w) ≡ take ROW (drop (row_place a) v)) where
    field : (k o : ℕ) → o + k ≤ ROW → num_at k w (row_place a + o) ≡ num_at k v (row_place a + o)
    field k o h = num-within w v ROW (row_place a) (row_place a) e k o h

    pub tag-row : tag_at w a ≡ tag_at v a
    tag-row = rw add-zero at (field 1 0 (omega arith))

    pub here-row : row_blocks w a ≡ row_blocks v a
    here-row = here-fields tag-row (field 2 END (omega arith)) (field 2 TO (omega arith)) (field 2 OTHER (omega arith))

  pub here-prefix : (k : ℕ) → take k w ≡ take k v → row_place a + ROW ≤ k → row_blocks w a ≡ row_blocks v a
  here-prefix k e h = here-row (part-prefix w v k e ROW (row_place a) h)

  pub here-suffix : (k : ℕ) → drop k w ≡ drop k v → k ≤ row_place a → row_blocks w a ≡ row_blocks v a
  here-suffix k e h = here-row (part-suffix w v k e ROW (row_place a) h)

module _ (w v : List ℕ) where
  pub from-rows : (a m : ℕ) → ((x : ℕ) → a ≤ x → x < a + m → row_blocks w x ≡ row_blocks v x) → blocks_from w a m ≡ blocks_from v a m
  unfolding blocks_from
  from-rows a zero h = refl
  from-rows a (suc m) h = ap₂ (λ (x y : List Block). x ++ y) (h a (omega arith) (omega arith)) (from-rows (suc a) m (λ x l g. h x (omega arith) (omega arith)))

  pub from-prefix : (a m k : ℕ) → take k w ≡ take k v → row_place (a + m) ≤ k → blocks_from w a m ≡ blocks_from v a m
  from-prefix a m k e h = from-rows a m (λ x l g. here-prefix w v x k e (omega arith))

  pub from-suffix : (a m k : ℕ) → drop k w ≡ drop k v → k ≤ row_place a → blocks_from w a m ≡ blocks_from v a m
  from-suffix a m k e h = from-rows a m (λ x l g. here-suffix w v x k e (omega arith))

  pub from-part : (a m k i : ℕ) → take k (drop i w) ≡ take k (drop i v) → i ≤ row_place a → row_place (a + m) ≤ i + k → blocks_from w a m ≡ blocks_from v a m
  from-part a m k i e l h = from-rows a m (λ x f g. here-row w v x (part_at w v k i e ROW (row_place x) (omega arith) (omega arith)))

  -- the rows' part of W says which blocks there are
  pub blocks-prefix : (n : ℕ) → SameRows n v w → blocks_at w n ≡ blocks_at v n
  blocks-prefix n e = from-prefix 0 (suc n) (rows_end n) e (omega arith)

-- ---- where they are split

module _ (w : List ℕ) where
  pub from-split : (m k a : ℕ) → blocks_from w a (m + k) ≡ blocks_from w a m ++ blocks_from w (a + m) k
  unfolding blocks_from
  from-split zero k a = rw (zero-add, add-zero)
  from-split (suc m) k a =
      let e : suc a + m ≡ a + suc m = omega arith in
      rw (suc-add, from-split m k (suc a), e) (sym (append_assoc (row_blocks w a) (blocks_from w (suc a) m) (blocks_from w (a + suc m) k)))

  pub from_one : (a m : ℕ) → blocks_from w a (suc m) ≡ row_blocks w a ++ blocks_from w (suc a) m
  unfolding blocks_from
  from_one a m = refl

  -- before an address, there, and past it
  pub blocks-split : (n a : ℕ) → a ≤ n → blocks_at w n ≡ blocks_from w 0 a ++ (row_blocks w a ++ blocks_from w (suc a) (n - a))
  blocks-split n a h =
      let e : suc n ≡ a + suc (n - a) = omega arith in
      rw (e, from-split a (suc (n - a)) 0, zero-add, from_one a (n - a))

  -- ---- one row

  module _ (a : ℕ) where
    pub here-empty : tag_at w a ≡ 0 → row_blocks w a ≡ []
    unfolding row_blocks
    here-empty e = if-true _ _ _ (eq-eqb _ _ e)

    pub here-block : (tag_at w a ≡ 0 → ⊥) → row_blocks w a ≡ block_at w a ∷ []
    unfolding row_blocks
    here-block h = if-false _ _ _ (ne_eqb _ _ h)

    -- what holds of no block and of the block holds of the row
    pub by_row : (F : List Block → Type 0) → (tag_at w a ≡ 0 → F []) → ((tag_at w a ≡ 0 → ⊥) → F (block_at w a ∷ [])) → F (row_blocks w a)
    unfolding row_blocks
    by_row F f g = both F (eqb (tag_at w a) 0) (λ e. f (eqb-true _ _ e)) (λ e. g (eqb-false _ _ e))

  pub from_empty : (a m : ℕ) → ((x : ℕ) → a ≤ x → x < a + m → tag_at w x ≡ 0) → blocks_from w a m ≡ []
  unfolding blocks_from
  from_empty a zero h = refl
  from_empty a (suc m) h = rw (here-empty a (h a (omega arith) (omega arith))) (from_empty (suc a) m (λ x l g. h x (omega arith) (omega arith)))

-- ---- one row is another: the blocks before it and past it stay

pub row-changed : (w v : List ℕ) (n a : ℕ) → a ≤ n → take (row_place a) w ≡ take (row_place a) v → drop (row_place (a + 1)) w ≡ drop (row_place (a + 1)) v
    → blocks_at w n ≡ blocks_from v 0 a ++ (row_blocks w a ++ blocks_from v (suc a) (n - a))
row-changed w v n a h b e =
    blocks-split w n a h
    ∙ rw (from-prefix w v 0 a (row_place a) b (omega arith), from-suffix w v (suc a) (n - a) (row_place (a + 1)) e (omega arith))

-- ---- which addresses start a block

module _ (w : List ℕ) (x : ℕ) where
  mem-one : (a m : ℕ) → mem x (starts (blocks_from w a (suc m))) ≡ (mem x (starts (row_blocks w a)) || mem x (starts (blocks_from w (suc a) m)))
  mem-one a m =
      ap (λ (bs : List Block). mem x (starts bs)) (from_one w a m) ∙ ap (mem x) (map-append (λ (b : Block). b.start) (row_blocks w a) (blocks_from w (suc a) m))
      ∙ mem-append x (starts (row_blocks w a)) (starts (blocks_from w (suc a) m))

  mem-other : (a : ℕ) → (x ≡ a → ⊥) → mem x (starts (row_blocks w a)) ≡ false
  mem-other a h = by_row w a (λ bs. mem x (starts bs) ≡ false) (λ _. refl) (λ _. rw (ne_eqb x a h))

  mem-same : mem x (starts (row_blocks w x)) ≡ not (eqb (tag_at w x) 0)
  mem-same =
      by_row w x (λ bs. mem x (starts bs) ≡ not (eqb (tag_at w x) 0)) (λ e. rw (eq-eqb (tag_at w x) 0 e)) (λ e. rw (ne_eqb (tag_at w x) 0 e, eq-eqb x x refl))

  mem-outside : (a m : ℕ) → (a ≤ x → x < a + m → ⊥) → mem x (starts (blocks_from w a m)) ≡ false
  unfolding blocks_from
  mem-outside a zero h = refl
  mem-outside a (suc m) h =
      let o : x ≡ a → ⊥ = λ e. h (omega arith) (omega arith) in
      mem-one a m ∙ rw (mem-other a o, mem-outside (suc a) m (λ l g. h (omega arith) (omega arith)))

  mem-from : (a m : ℕ) → a ≤ x → x < a + m → mem x (starts (blocks_from w a m)) ≡ not (eqb (tag_at w x) 0)
  mem-from a zero l g = absurd (omega arith)
  mem-from a (suc m) l g = mem-one a m ∙ go (dec_lt a x) (mem-from (suc a) m)
    where
      go : Dec (a < x) → (suc a ≤ x → x < suc a + m → mem x (starts (blocks_from w (suc a) m)) ≡ not (eqb (tag_at w x) 0))
          → (mem x (starts (row_blocks w a)) || mem x (starts (blocks_from w (suc a) m))) ≡ not (eqb (tag_at w x) 0)
      go (yes p) more = rw (mem-other a (λ e. omega arith)) (more (omega arith) (omega arith))
      go (no p) more =
          let e : a ≡ x = omega arith in
          rw (e, mem-same, mem-outside (suc x) m (λ k j. omega arith)) (or-false (not (eqb (tag_at w x) 0)))

  module _ (n : ℕ) where
    pub start-at : x ≤ n → mem x (starts (blocks_at w n)) ≡ not (eqb (tag_at w x) 0)
    start-at h = mem-from 0 (suc n) (omega arith) (omega arith)

    pub start-past : n < x → mem x (starts (blocks_at w n)) ≡ false
    start-past h = mem-outside 0 (suc n) (λ l g. omega arith)

    pub start_inside : mem x (starts (blocks_at w n)) ≡ true → x ≤ n
    start_inside e = go (dec_lt n x)
      where
        go : Dec (n < x) → x ≤ n
        go (yes p) = let f = start-past p in let z : ◌≡◌ {A = ℕ} 0 1 = cc in absurd (omega arith)
        go (no p) = omega arith

-- ---- which block it is

-- b is the block of its start's row
pub record Found (w : List ℕ) (b : Block) : Type 0 where
  pub starts : tag_at w b.start ≡ 0 → ⊥
  pub same : b ≡ block_at w b.start

module _ (w : List ℕ) where
  found_here : {b : Block} (a : ℕ) → In b (row_blocks w a) → (b.start ≡ a) × Found w b
  found_here {b} a =
      by_row w a (λ bs. In b bs → (b.start ≡ a) × Found w b) (λ _ i. elim i [ ])
      (λ h i. let e = in-only i in (ap (λ (c : Block). c.start) e, rw e (record { starts = h; same = refl })))

  found_from : {b : Block} (a m : ℕ) → In b (blocks_from w a m) → (a ≤ b.start) × (b.start < a + m) × Found w b
  unfolding blocks_from
  found_from a zero i = elim i [ ]
  found_from {b} a (suc m) i = go (in-cases (row_blocks w a) i) (found_from (suc a) m)
    where
      go : In b (row_blocks w a) ⊎ In b (blocks_from w (suc a) m) → (In b (blocks_from w (suc a) m) → (suc a ≤ b.start) × (b.start < suc a + m) × Found w b)
          → (a ≤ b.start) × (b.start < a + suc m) × Found w b
      go (inl q) more = let f = found_here a q in (omega (arith, f.0), omega (arith, f.0), f.1)
      go (inr q) more = let f = more q in (omega (arith, f.0), omega (arith, f.1), f.2)

  pub found : {b : Block} (n : ℕ) → In b (blocks_at w n) → (b.start ≤ n) × Found w b
  found n i = let f = found_from 0 (suc n) i in (omega (arith, f.1), f.2)

  pub block_in : (n a : ℕ) → a ≤ n → (tag_at w a ≡ 0 → ⊥) → In (block_at w a) (blocks_at w n)
  block_in n a h t = rw (blocks-split w n a h, here-block w a t) (in_right (blocks_from w 0 a) here)
