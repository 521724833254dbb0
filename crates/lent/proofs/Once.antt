-- The contracts leave no choice: two results of one call are the same. Where a contract speaks of numbers, their bytes are said too, since a slice holds
-- bytes. Assumes nothing.
use mathlib.Core.Path.{◌≡◌, refl, sym, ◌∙◌}
use mathlib.Core.List.{List}
use Prim.Native.Nat.{ℕ, zero, suc, ◌+◌, ◌*◌, ◌≤◌, ◌<◌}
use native.Mathlib.Nat.{mul-suc, mul-zero}
use native.Mathlib.Numerals.{add-one}
use native.Mathlib.Decide.{dec_lt}
use native.Mathlib.Omega.{arith}
use lib.ListN.{length, get_or, take, drop, drop_of_length-le}
use lib.Seq.{drop-cons, drop-drop, take-add, take_all}
use Rattle.lent.specs.Bytes.{num_at, Holds, Stored}
use Rattle.lent.proofs.Parts.{by-halves}
use Rattle.lent.proofs.Numbers.{num-step}

-- ---- what the contracts of this crate leave

pub one-held : {k at v u : ℕ} {b : List ℕ} → Holds k b at v → Holds k b at u → v ≡ u
one-held p q = p.is ∙ sym q.is

pub one-stored : {n m at : ℕ} {b bs b' b'' : List ℕ} → Stored n b at bs b' → Stored m b at bs b'' → (n ≡ m) × (b' ≡ b'')
one-stored p q = (sym p.long ∙ q.long, p.is ∙ sym q.is)

-- ---- what the laws of the crates above are put together from

-- a list of bytes: so is what any slice of them holds, by its type
pub record Bytes (b : List ℕ) : Type 0 where
  pub small : (i : ℕ) → get_or b i 0 < 256

-- l and m are the same in the k places from i on
pub record Same (l m : List ℕ) (i k : ℕ) : Type 0 where
  pub is : take k (drop i l) ≡ take k (drop i m)

-- and everywhere but in the k places from i on
pub record Outside (i k : ℕ) (l m : List ℕ) : Type 0 where
  pub before : take i l ≡ take i m
  pub after : drop (i + k) l ≡ drop (i + k) m
  pub long : length l ≡ length m

-- equal numbers have equal bytes
module _ {l m : List ℕ} (p : Bytes l) (q : Bytes m) (long : length l ≡ length m) where
  bytes_same : (k i : ℕ) → num_at k l i ≡ num_at k m i → take k (drop i l) ≡ take k (drop i m)
  bytes_same zero i e = refl
  bytes_same (suc k) i e = go (dec_lt i (length l)) (bytes_same k (i + 1))
    where
      go : Dec (i < length l) → (num_at k l (i + 1) ≡ num_at k m (i + 1) → take k (drop (i + 1) l) ≡ take k (drop (i + 1) m))
          → take (suc k) (drop i l) ≡ take (suc k) (drop i m)
      go (yes h) more =
          let first : get_or l i 0 ≡ get_or m i 0 = omega (arith, num-step k l i, num-step k m i, p.small i, q.small i) in
          let others : num_at k l (i + 1) ≡ num_at k m (i + 1) = omega (arith, num-step k l i, num-step k m i, p.small i, q.small i) in
          let rest : take k (drop (suc i) l) ≡ take k (drop (suc i) m) = rw add-one at (more others) in
          rw (drop-cons l i 0 h, drop-cons m i 0 (omega arith), first, rest)
      go (no h) more = rw (drop_of_length-le l {i = i} (omega arith), drop_of_length-le m {i = i} (omega arith))

  pub same-num : (k i : ℕ) → num_at k l i ≡ num_at k m i → Same l m i k
  same-num k i e = record { is = bytes_same k i e }

module _ {l m : List ℕ} where
  -- both are one list there
  pub same-both : (i k : ℕ) {bs : List ℕ} → take k (drop i l) ≡ bs → take k (drop i m) ≡ bs → Same l m i k
  same-both i k p q = record { is = p ∙ sym q }

  -- the same place and size, said in another way
  pub same-as : {i j k h : ℕ} → Same l m i k → i ≡ j → k ≡ h → Same l m j h
  same-as p e f = rw (sym e, sym f) p

  -- one part after another
  pub same_then : {i j h k : ℕ} → Same l m i j → Same l m h k → h ≡ i + j → Same l m i (j + k)
  same_then {i} {j} {h} {k} p q e =
      let rest : take k (drop j (drop i l)) ≡ take k (drop j (drop i m)) = rw (drop-drop j i l, drop-drop j i m, ← e) q.is in
      record { is = rw (take-add j k (drop i l), take-add j k (drop i m), p.is, rest) }

  -- n rows of k places each
  pub same_rows : (i k n : ℕ) → ((a : ℕ) → a < n → Same l m (i + k * a) k) → Same l m i (k * n)
  same_rows i k zero h = rw mul-zero (record { is = refl })
  same_rows i k (suc n) h = rw mul-suc (same_then (same_rows i k n (λ a g. h a (omega arith))) (h n (omega arith)) refl)

  -- a part and all after it, or what is past a gap; all of the list
  pub same_whole : (k : ℕ) → Same l m 0 k → drop k l ≡ drop k m → l ≡ m
  same_whole k p e = by-halves k l m p.is e

  pub same-outside : (j : ℕ) {i k : ℕ} → Same l m 0 i → drop j l ≡ drop j m → j ≡ i + k → length l ≡ length m → Outside i k l m
  same-outside j p e h long = record { before = p.is; after = rw h at e; long = long }

  pub same-all : (k : ℕ) → length l ≤ k → length l ≡ length m → Same l m 0 k → l ≡ m
  same-all k h e p = sym (take_all k l h) ∙ p.is ∙ take_all k m (omega arith)
