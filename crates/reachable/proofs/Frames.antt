-- What stays: the laws of `Kept`, and what each store of a mark, a flag or an entry leaves. Assumes nothing.
use mathlib.Core.Path.{◌≡◌, refl, ◌∙◌}
use mathlib.Core.List.{List}
use Prim.Native.Nat.{ℕ, zero, suc, ◌+◌, ◌-◌, ◌≤◌, ◌<◌}
use native.Mathlib.Omega.{arith}
use lib.ListN.{take, drop}
use Rattle.lent.specs.Bytes.{num_at, Stored}
use Rattle.lent.proofs.Parts.{part-within}
use Rattle.lent.proofs.Numbers.{num-within}
use Rattle.lent.proofs.Stored.{kept-take, kept-drop, kept-part, kept-num}
use Rattle.layout.specs.Fields.{FLAG, LAST, HEADS, mark_at, flag_at, entry_at}
use Rattle.layout.specs.Parts.{ROW, rows_end, fields_place, entry_place, buckets_place}
use Rattle.reachable.specs.Marks.{entries}
use Rattle.reachable.specs.Promises.{Kept, KeptBut}

-- within a part that stays
module _ (l m : List ℕ) (n i : ℕ) (e : take n (drop i l) ≡ take n (drop i m)) (k a : ℕ) (h : i ≤ a) (g : a + k ≤ i + n) where
  pub num-in : num_at k l a ≡ num_at k m a
  num-in = let s : i + (a - i) ≡ a = omega arith in rw s at (num-within l m n i i e k (a - i) (omega arith))

  pub part_in : take k (drop a l) ≡ take k (drop a m)
  part_in = let s : i + (a - i) ≡ a = omega arith in rw s at (part-within l m n i i e k (a - i) (omega arith))

pub kept-none : {n : ℕ} {w : List ℕ} → Kept n w w
kept-none = record { rows = refl; fields = λ a h. refl; spare = λ a h. refl; beyond = refl; long = refl }

pub kept-after : {n : ℕ} {w w₁ w₂ : List ℕ} → Kept n w w₁ → Kept n w₁ w₂ → Kept n w w₂
kept-after p q = record {
  rows = q.rows ∙ p.rows;
  fields = λ a h. q.fields a h ∙ p.fields a h;
  spare = λ a h. q.spare a h ∙ p.spare a h;
  beyond = q.beyond ∙ p.beyond;
  long = q.long ∙ p.long;
}

-- the highest parents left out
pub kept_but : {n : ℕ} {w w' : List ℕ} → Kept n w w' → KeptBut n w w'
kept_but {n} {w} {w'} k = record {
  rows = k.rows;
  fields = λ a h. part_in w' w 14 (fields_place n a + HEADS) (k.fields a h) 12 (fields_place n a + HEADS) (omega arith) (omega arith);
  spare = k.spare;
  beyond = k.beyond;
  long = k.long;
}

pub but-after : {n : ℕ} {w w₁ w₂ : List ℕ} → KeptBut n w w₁ → KeptBut n w₁ w₂ → KeptBut n w w₂
but-after p q = record {
  rows = q.rows ∙ p.rows;
  fields = λ a h. q.fields a h ∙ p.fields a h;
  spare = λ a h. q.spare a h ∙ p.spare a h;
  beyond = q.beyond ∙ p.beyond;
  long = q.long ∙ p.long;
}

-- ---- a store that meets neither others' fields nor what is spare

kept_store : {n k at : ℕ} {w bs w' : List ℕ} → Stored k w at bs w' → rows_end n ≤ at → at + k ≤ buckets_place n
    → ((a : ℕ) → a ≤ n → fields_place n a + HEADS < at + k → fields_place n a + FLAG ≤ at)
    → ((a : ℕ) → a ≤ n → fields_place n a + LAST < at + k → fields_place n a + ROW ≤ at) → Kept n w w'
kept_store {n} s lo hi f g = record {
  rows = kept-take s (rows_end n) lo;
  fields = λ a h. kept-part s 14 (fields_place n a + HEADS) (λ l. omega (arith, f a h l));
  spare = λ a h. kept-part s 1 (fields_place n a + LAST) (λ l. omega (arith, g a h l));
  beyond = kept-drop s (buckets_place n) hi;
  long = s.kept;
}

pub entries-same : (w w' : List ℕ) (n k : ℕ) → ((i : ℕ) → i < k → entry_at w' n i ≡ entry_at w n i) → entries w' n k ≡ entries w n k
unfolding entries
entries-same w w' n zero h = refl
entries-same w w' n (suc k) h = rw (h k (omega arith), entries-same w w' n k (λ i l. h i (omega arith)))

-- a mark
module _ {n x : ℕ} {w bs w' : List ℕ} (h : x ≤ n) (s : Stored 4 w (fields_place n x) bs w') where
  pub mark-kept : Kept n w w'
  mark-kept = kept_store s (omega arith) (omega arith) (λ a k l. omega arith) (λ a k l. omega arith)

  pub mark-others : (a : ℕ) → (a ≡ x → ⊥) → mark_at w' n a ≡ mark_at w n a
  mark-others a ne = kept-num s 4 (fields_place n a) (λ l. omega arith)

  pub mark-flags : (a : ℕ) → flag_at w' n a ≡ flag_at w n a
  mark-flags a = kept-num s 1 (fields_place n a + FLAG) (λ l. omega arith)

  pub mark-entries : (i : ℕ) → entry_at w' n i ≡ entry_at w n i
  mark-entries i = kept-num s 2 (entry_place n i) (λ l. omega arith)

-- a flag
module _ {n x : ℕ} {w bs w' : List ℕ} (h : x ≤ n) (s : Stored 1 w (fields_place n x + FLAG) bs w') where
  pub flag-kept : Kept n w w'
  flag-kept = kept_store s (omega arith) (omega arith) (λ a k l. omega arith) (λ a k l. omega arith)

  pub flag-others : (a : ℕ) → (a ≡ x → ⊥) → flag_at w' n a ≡ flag_at w n a
  flag-others a ne = kept-num s 1 (fields_place n a + FLAG) (λ l. omega arith)

  pub flag-marks : (a : ℕ) → mark_at w' n a ≡ mark_at w n a
  flag-marks a = kept-num s 4 (fields_place n a) (λ l. omega arith)

  pub flag-entries : (i : ℕ) → entry_at w' n i ≡ entry_at w n i
  flag-entries i = kept-num s 2 (entry_place n i) (λ l. omega arith)

-- an entry
module _ {n k : ℕ} {w bs w' : List ℕ} (h : k ≤ n) (s : Stored 2 w (entry_place n k) bs w') where
  pub entry_kept : Kept n w w'
  entry_kept = kept_store s (omega arith) (omega arith) (λ a k l. omega arith) (λ a k l. omega arith)

  pub entry-others : (i : ℕ) → i < k → entry_at w' n i ≡ entry_at w n i
  entry-others i l = kept-num s 2 (entry_place n i) (λ _. omega arith)

  pub entry-marks : (a : ℕ) → a ≤ n → mark_at w' n a ≡ mark_at w n a
  entry-marks a l = kept-num s 4 (fields_place n a) (λ _. omega arith)

  pub entry-flags : (a : ℕ) → a ≤ n → flag_at w' n a ≡ flag_at w n a
  entry-flags a l = kept-num s 1 (fields_place n a + FLAG) (λ _. omega arith)
