-- The laws of numbers in bytes, over the width: the bytes of a number, and the number that stands at a place. Assumes nothing.
use mathlib.Core.Path.{◌≡◌, refl, ap, ◌∙◌}
use mathlib.Core.List.{List, [], ◌∷◌, ◌++◌}
use Prim.Native.Nat.{ℕ, zero, suc, ◌+◌, ◌*◌, ◌/◌, ◌^◌, ◌≤◌, ◌<◌}
use native.Mathlib.Nat.{zero-add, suc-add, add-zero, add_assoc, div-one, pow-suc, pow-succ', div-div-eq-div-mul}
use native.Mathlib.Numerals.{one-add}
use native.Mathlib.Omega.{arith}
use lib.ListN.{length, get_or, take, drop, replicate}
use lib.Seq.{take-nil, drop-nil}
use Rattle.spec.specs.Lists.{little}
pub use Rattle.theorems.proofs.Bytes.{number-little}
use Rattle.lent.specs.Bytes.{number, num_at, patch}
use Rattle.lent.proofs.Parts.{part-prefix, part-suffix, part-within}
use Rattle.lent.proofs.Patch.{part_apart, part-inside, part-patch}

-- ---- the bytes of a number

pub length-little : (k v : ℕ) → length (little k v) ≡ k
length-little zero v = refl
length-little (suc k) v = ap suc (length-little k (v / 256))

-- the first j bytes, and the others
pub little-add : (j k v : ℕ) → little (j + k) v ≡ little j v ++ little k (v / 256 ^ j)
little-add zero k v = rw (zero-add, div-one)
little-add (suc j) k v = rw (suc-add, pow-succ', ← div-div-eq-div-mul v 256 (256 ^ j), little-add j k (v / 256))

-- ---- the number at a place

-- its lowest byte, and the others
pub num-step : (k : ℕ) (b : List ℕ) (at : ℕ) → num_at (suc k) b at ≡ get_or b at 0 + num_at k b (at + 1) * 256
unfolding num_at number
num-step k [] zero = simp take-nil
num-step k (x ∷ b) zero = refl
num-step k [] (suc at) = simp (drop-nil, take-nil)
num-step k (x ∷ b) (suc at) = rw suc-add (num-step k b at)

pub num-none : (b : List ℕ) (at : ℕ) → num_at 0 b at ≡ 0
unfolding num_at number
num-none b at = refl

pub num-byte : (b : List ℕ) (at : ℕ) → num_at 1 b at ≡ get_or b at 0
num-byte b at = omega (arith, num-step 0 b at, num-none b (at + 1))

-- a number in two parts
pub num-add : (j k : ℕ) (b : List ℕ) (at : ℕ) → num_at (j + k) b at ≡ num_at j b at + num_at k b (at + j) * 256 ^ j
num-add zero k b at = rw (zero-add, num-none, add-zero) (omega arith)
num-add (suc j) k b at =
    rw (suc-add, num-step (j + k), num-step j, num-add j k b (at + 1), pow-suc, add_assoc at 1 j, one-add) (omega arith)

-- below the power of its width, where every byte is one
pub num-small : (k : ℕ) (b : List ℕ) (at : ℕ) → ((i : ℕ) → get_or b i 0 < 256) → num_at k b at < 256 ^ k
num-small zero b at h = omega (arith, num-none b at)
num-small (suc k) b at h = omega (arith, num-step k b at, h at, num-small k b (at + 1) h, pow-suc 256 k)

-- 0 among zeros
zeros : (n i : ℕ) → get_or {A = ℕ} (replicate n 0) i 0 ≡ 0
zeros zero i = refl
zeros (suc n) zero = refl
zeros (suc n) (suc i) = zeros n i

pub num-zeros : (k n at : ℕ) → num_at k (replicate n 0) at ≡ 0
num-zeros zero n at = num-none (replicate n 0) at
num-zeros (suc k) n at = omega (arith, num-step k (replicate n 0) at, zeros n at, num-zeros k n (at + 1))

-- ---- where it is the same

-- lists that agree on a prefix, on a suffix, on a part
module _ (l m : List ℕ) (n : ℕ) where
  pub num-prefix : take n l ≡ take n m → (k i : ℕ) → i + k ≤ n → num_at k l i ≡ num_at k m i
  unfolding num_at
  num-prefix e k i h = ap number (part-prefix l m n e k i h)

  pub num-suffix : drop n l ≡ drop n m → (k i : ℕ) → n ≤ i → num_at k l i ≡ num_at k m i
  unfolding num_at
  num-suffix e k i h = ap number (part-suffix l m n e k i h)

  pub num-within : (i j : ℕ) → take n (drop i l) ≡ take n (drop j m) → (k o : ℕ) → o + k ≤ n → num_at k l (i + o) ≡ num_at k m (j + o)
  unfolding num_at
  num-within i j e k o h = ap number (part-within l m n i j e k o h)

-- a patch that does not reach it, or that holds it
module _ (b : List ℕ) (at : ℕ) (bs : List ℕ) (fits : at + length bs ≤ length b) where
  pub num-apart : (k i : ℕ) → (i < at + length bs → i + k ≤ at) → num_at k (patch b at bs) i ≡ num_at k b i
  unfolding num_at
  num-apart k i h = ap number (part_apart b at bs fits k i h)

  pub num-inside : (k o : ℕ) → o + k ≤ length bs → num_at k (patch b at bs) (at + o) ≡ num_at k bs o
  unfolding num_at
  num-inside k o h = ap number (part-inside b at bs fits k o h)

pub num-patch : (k : ℕ) (b : List ℕ) (at v : ℕ) → at + k ≤ length b → v < 256 ^ k → num_at k (patch b at (little k v)) at ≡ v
unfolding num_at
num-patch k b at v f h =
    let fits : at + length (little k v) ≤ length b = rw length-little f in
    ap number (rw length-little at (part-patch b at (little k v) fits)) ∙ number-little k v h
