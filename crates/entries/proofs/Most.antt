-- How many bytes all blocks and all rows take at most: a row is of one block only, and no more blocks are kept than addresses are flagged. Assumes nothing.
use mathlib.Core.Path.{◌≡◌, refl, ap, ◌∙◌}
use mathlib.Core.Bool.{Bool, true, false, not}
use mathlib.Core.List.{List, [], ◌∷◌, ◌++◌}
use Prim.Native.Nat.{ℕ, zero, suc, ◌+◌, ◌*◌, ◌≤◌, ◌<◌}
use native.Mathlib.Numerals.{add-one}
use native.Mathlib.Nat.{add-zero, zero-add, mul-zero, mul-suc, mul-add, mul-le-mul_left}
use native.Mathlib.Omega.{arith}
use lib.Dec.{eqb}
use lib.ListN.{length, length-append}
use borrow.Author.Tests.{eqb-true, ne_eqb}
use Rattle.spec.specs.Lists.{if, keep, gather, total}
use Rattle.laws.proofs.Branch.{both, if-false, and-false}
use Rattle.laws.proofs.Totals.{total-none, total-sum, total-keep, total-less, total-each}
use Rattle.layout.specs.Edges.{end_at}
use Rattle.layout.specs.Fields.{flag_at}
use Rattle.layout.specs.Records.{start_at}
use Rattle.layout.specs.Rows.{tag_at}
use Rattle.reachable.specs.Marks.{set_below, flagged}
use Rattle.reachable.proofs.Flags.{flagged-test}
use Rattle.entries.specs.Rows.{upto, steps_of, mine, kept, kept_below}
use Rattle.entries.specs.Promises.{RowsIn}
use Rattle.entries.proofs.Keeping.{keep-off, length-keep}
use Rattle.entries.proofs.Blocks.{below_more, below-few}

-- ---- what is gathered

-- what is gathered has no more than the sum of what each can have
pub gather-most : {B : Type 0} (f : ℕ → List B) (cost : ℕ → ℕ) → ((x : ℕ) → length (f x) ≤ cost x) → (xs : List ℕ) → length (gather f xs) ≤ total cost xs
gather-most f cost h [] = omega arith
gather-most f cost h (x ∷ xs) = omega (arith, h x, gather-most f cost h xs, length-append (f x) (gather f xs))

-- ---- rows

-- c for one number, nothing for any other
abbrev only : ℕ → ℕ → ℕ → ℕ
only s c a = if (eqb a s) c 0

only-past : (s c k i : ℕ) → s < i → total (only s c) (upto i k) ≡ 0
unfolding upto
only-past s c zero i h = refl
only-past s c (suc k) i h = omega (arith, if-false (eqb i s) c 0 (ne_eqb i s (λ e. omega arith)), only-past s c k (suc i) (omega arith))

only-once : (s c k i : ℕ) → total (only s c) (upto i k) ≤ c
unfolding upto
only-once s c zero i = omega arith
only-once s c (suc k) i =
    let later = only-once s c k (suc i) in
    both (λ (x : ℕ). x + total (only s c) (upto (suc i) k) ≤ c) (eqb i s)
    (λ e. omega (arith, only-past s c k (suc i) (omega (arith, eqb-true i s e))))
    (λ _. omega arith)

one_more : (b : Bool) (cost : ℕ → ℕ) (x : ℕ) (xs : List ℕ) → total cost (if b (x ∷ xs) xs) ≡ if b (cost x) 0 + total cost xs
unfolding if
one_more true cost x xs = refl
one_more false cost x xs = omega arith

module _ (r : List ℕ) (cost : ℕ → ℕ) where
  -- what those of some rows take that are of the block at a
  abbrev taken : List ℕ → ℕ → ℕ
  taken rows a = total cost (keep (mine r a) rows)

  some-once : (rows : List ℕ) (g : ℕ → Bool) (k : ℕ) → total (taken rows) (keep g (upto 0 k)) ≤ total cost rows
  some-once [] g k = omega (arith, total-none (keep g (upto 0 k)))
  some-once (i ∷ rows) g k =
      let s : ℕ = start_at r i in
      let starts : List ℕ = keep g (upto 0 k) in
      omega (
        arith,
        total-less (taken (i ∷ rows)) (λ (a : ℕ). only s (cost i) a + taken rows a) starts (λ a _. omega (arith, one_more (mine r a i) cost i (keep (mine r a) rows))),
        total-sum (only s (cost i)) (taken rows) starts,
        total-keep (only s (cost i)) g (upto 0 k),
        only-once s (cost i) k 0,
        some-once rows g k,
      )

  -- a row is of one block only, so that the rows of all blocks take no more than all rows
  rows-once : (m : ℕ) (g : ℕ → Bool) (k : ℕ) → total (λ (a : ℕ). total cost (keep (mine r a) (upto 0 m))) (keep g (upto 0 k)) ≤ total cost (upto 0 m)
  rows-once m = some-once (upto 0 m)

module _ {r q : List ℕ} {m : ℕ} (rows : RowsIn r q m) (c d : ℕ) where
  from_row : (k i : ℕ) → i + k ≤ m → total (λ (j : ℕ). c + d * steps_of r j) (upto i k) + d * end_at r i ≡ c * k + d * end_at r (i + k)
  unfolding upto
  from_row zero i h = rw (add-zero, mul-zero) (omega arith)
  from_row (suc k) i h =
      let place : i + suc k ≡ suc i + k = omega arith in
      let step : steps_of r i + end_at r i ≡ end_at r (suc i) = omega (arith, (rows.each i (omega arith)).rises) in
      let apart : d * (steps_of r i + end_at r i) ≡ d * steps_of r i + d * end_at r i = mul-add d (steps_of r i) (end_at r i) in
      rw (place, mul-suc) (omega (arith, from_row k (suc i) (omega arith), rw step at apart))

  -- all rows, at c for each and d for each of its steps
  pub rows-total : total (λ (i : ℕ). c + d * steps_of r i) (upto 0 m) ≡ c * m + d * end_at r m
  unfolding end_at
  rows-total =
      let all : total (λ (i : ℕ). c + d * steps_of r i) (upto 0 m) + d * end_at r 0 ≡ c * m + d * end_at r m = rw zero-add at (from_row m 0 (omega arith)) in
      omega (arith, all, mul-zero d)

-- ---- blocks

not-flagged : (w : List ℕ) (n a : ℕ) → a ≤ n → eqb (flag_at w n a) 0 ≡ true → kept w n a ≡ false
unfolding kept
not-flagged w n a h e = and-false (not (eqb (tag_at w a) 0)) (flagged-test w n a h ∙ ap not e)

flags-below : (w : List ℕ) (n k : ℕ) → k ≤ suc n → length (kept_below w n k) ≤ length (set_below (flag_at w n) k)
unfolding set_below
flags-below w n zero h = omega (arith, below-few w n 0)
flags-below w n (suc k) h =
    let next : kept_below w n (suc k) ≡ kept_below w n k ++ keep (kept w n) (k ∷ []) = rw add-one at (below_more w n k) in
    let more : length (kept_below w n (suc k)) ≡ length (kept_below w n k) + length (keep (kept w n) (k ∷ []))
    = ap length next ∙ length-append (kept_below w n k) (keep (kept w n) (k ∷ [])) in
    let later = flags-below w n k (omega arith) in
    both (λ (l : List ℕ). length (kept_below w n (suc k)) ≤ length l) (eqb (flag_at w n k) 0)
    (λ e. omega (arith, ap length (keep-off (kept w n) k (not-flagged w n k (omega arith) e))))
    (λ _. omega (arith, length-keep (kept w n) (k ∷ [])))

-- a block that is kept is flagged
below-flagged : (w : List ℕ) (n : ℕ) → length (kept_below w n (n + 1)) ≤ length (flagged w n)
unfolding flagged
below-flagged w n = rw add-one (flags-below w n (suc n) (omega arith))

-- all kept blocks, at b for each, with their rows, at c for each and d for each of its steps
pub blocks-most : {r q : List ℕ} {m : ℕ} → RowsIn r q m → (w : List ℕ) (n b c d : ℕ)
    → total (λ (a : ℕ). b + total (λ (i : ℕ). c + d * steps_of r i) (keep (mine r a) (upto 0 m))) (kept_below w n (n + 1)) ≤ b * length (flagged w n) + (c * m + d * end_at r m)
unfolding kept_below
blocks-most {r} {q} {m} rows w n b c d =
    let cost : ℕ → ℕ = λ i. c + d * steps_of r i in
    let starts : List ℕ = keep (kept w n) (upto 0 (n + 1)) in
    omega (
      arith,
      total-each b (λ (a : ℕ). total cost (keep (mine r a) (upto 0 m))) starts,
      mul-le-mul_left b (below-flagged w n),
      rows-once r cost m (kept w n) (n + 1),
      rows-total rows c d,
    )
