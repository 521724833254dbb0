-- The laws of `Stored`, which shows its arguments, so that a use writes few: what stays (`kept-`), what is read back (`read-`), and
-- stores after stores. Assumes nothing.
use mathlib.Core.Path.{◌≡◌, refl, sym, ap, ◌∙◌}
use mathlib.Core.List.{List, [], ◌∷◌, ◌++◌}
use Prim.Native.Nat.{ℕ, ◌+◌, ◌/◌, ◌%◌, ◌^◌, ◌≤◌, ◌<◌}
use native.Mathlib.Nat.{div-one, pow-suc, div-div-eq-div-mul}
use native.Mathlib.Numerals.{add-one}
use native.Mathlib.Omega.{arith}
use lib.ListN.{length, get_or, take, drop, set, length-append}
use Rattle.spec.specs.Lists.{little}
use Rattle.lent.specs.Bytes.{num_at, patch, Stored}
use Rattle.lent.proofs.Patch.{length-patch, take-patch, drop-patch, part_apart, part-inside, part-patch, take-patch-end, patch-none, patch-join, patch-over, patch-swap, patch-byte}
use Rattle.lent.proofs.Numbers.{num-byte, num-apart, num-inside, num-patch, num-within, little-add}

pub stored : (n : ℕ) (b : List ℕ) (at : ℕ) (bs b' : List ℕ) → b' ≡ patch b at bs → length bs ≡ n → at + n ≤ length b → Stored n b at bs b'
stored n b at bs b' e l f = record { is = e; long = l; fits = f; kept = ap length e ∙ length-patch b at bs (omega arith) }

module _ {n at : ℕ} {b bs b' : List ℕ} (s : Stored n b at bs b') where
  fit : at + length bs ≤ length b
  fit = omega arith

  -- ---- what stays: all before, all after, and what the run does not meet

  pub kept-take : (k : ℕ) → k ≤ at → take k b' ≡ take k b
  kept-take k h = rw s.is (take-patch b at bs fit k h)

  pub kept-drop : (k : ℕ) → at + n ≤ k → drop k b' ≡ drop k b
  kept-drop k h = rw s.is (drop-patch b at bs fit k (omega arith))

  pub kept-part : (k i : ℕ) → (i < at + n → i + k ≤ at) → take k (drop i b') ≡ take k (drop i b)
  kept-part k i h = rw s.is (part_apart b at bs fit k i (rw s.long h))

  pub kept-num : (k i : ℕ) → (i < at + n → i + k ≤ at) → num_at k b' i ≡ num_at k b i
  kept-num k i h = rw s.is (num-apart b at bs fit k i (rw s.long h))

  pub kept_byte : (i : ℕ) → (i < at + n → i < at) → get_or b' i 0 ≡ get_or b i 0
  kept_byte i h = sym (num-byte b' i) ∙ kept-num 1 i (λ l. omega (arith, h l)) ∙ num-byte b i

  -- ---- what is read back

  pub read_take : take (at + n) b' ≡ take at b ++ bs
  read_take = rw (s.is, ← s.long) (take-patch-end b at bs fit)

  pub read_all : take n (drop at b') ≡ bs
  read_all = rw (s.is, ← s.long) (part-patch b at bs fit)

  pub read-part : (k o : ℕ) → o + k ≤ n → take k (drop (at + o) b') ≡ take k (drop o bs)
  read-part k o h = rw s.is (part-inside b at bs fit k o (omega arith))

  pub read-num : (k o : ℕ) → o + k ≤ n → num_at k b' (at + o) ≡ num_at k bs o
  read-num k o h = rw s.is (num-inside b at bs fit k o (omega arith))

-- the number that was put, and a number that was copied
pub read_back : {k at v : ℕ} {b b' : List ℕ} → Stored k b at (little k v) b' → v < 256 ^ k → num_at k b' at ≡ v
read_back {k} {at} {v} {b} {b'} s h = rw s.is (num-patch k b at v s.fits h)

pub read-copy : (l : List ℕ) (from : ℕ) {n at : ℕ} {b b' : List ℕ} → Stored n b at (take n (drop from l)) b'
    → (k o : ℕ) → o + k ≤ n → num_at k b' (at + o) ≡ num_at k l (from + o)
read-copy l from {n} {at} {b'} s = num-within b' l n at from (read_all s)

-- ---- stores after stores

pub stored-none : (b : List ℕ) (at : ℕ) → at ≤ length b → Stored 0 b at [] b
stored-none b at h = stored 0 b at [] b (sym (patch-none b at)) refl (omega arith)

-- one byte
pub stored-byte : (b : List ℕ) (at x : ℕ) → at + 1 ≤ length b → Stored 1 b at (x ∷ []) (set b at x)
stored-byte b at x h = stored 1 b at (x ∷ []) (set b at x) (sym (patch-byte b at x (omega arith))) refl h

-- the second stands right after the first
pub stored-join : {m n at : ℕ} {b b₁ b₂ xs ys : List ℕ} → Stored m b at xs b₁ → Stored n b₁ (at + m) ys b₂ → Stored (m + n) b at (xs ++ ys) b₂
stored-join {m} {n} {at} {b} {b₁} {b₂} {xs} {ys} s t =
    stored (m + n) b at (xs ++ ys) b₂
    (t.is ∙ rw (s.is, ← s.long) (patch-join b at xs ys (fit s)))
    (omega (arith, length-append xs ys))
    (omega arith)

-- the second stands right before the first
pub stored-under : {m n at : ℕ} {b b₁ b₂ xs ys : List ℕ} → Stored n b (at + m) ys b₁ → Stored m b₁ at xs b₂ → Stored (m + n) b at (xs ++ ys) b₂
stored-under {m} {n} {at} {b} {b₁} {b₂} {xs} {ys} t s =
    stored (m + n) b at (xs ++ ys) b₂
    (s.is ∙ rw (t.is, ← s.long) (sym (patch-swap b at xs (at + length xs) ys (omega arith) (omega arith)) ∙ patch-join b at xs ys (omega arith)))
    (omega (arith, length-append xs ys))
    (omega arith)

-- the second covers the first
pub stored-over : {m n i at : ℕ} {b b₁ b₂ xs ys : List ℕ} → Stored m b i xs b₁ → Stored n b₁ at ys b₂ → at ≤ i → i + m ≤ at + n → Stored n b at ys b₂
stored-over {m} {n} {i} {at} {b} {b₁} {b₂} {xs} {ys} s t h g =
    stored n b at ys b₂ (t.is ∙ rw s.is (patch-over b i xs at ys (fit s) h (omega arith))) t.long (omega arith)

-- ---- a number, a byte a turn, its lowest first

-- the i lowest bytes of v were stored, and u is what is left of it
pub record Writing (b : List ℕ) (at v i u : ℕ) (b' : List ℕ) : Type 0 where
  pub stored : Stored i b at (little i v) b'
  pub left : u ≡ v / 256 ^ i

pub writing-none : (b : List ℕ) (at v : ℕ) → at ≤ length b → Writing b at v 0 v b
writing-none b at v h = record { stored = stored-none b at h; left = sym (div-one v) }

pub writing-more : {b b' : List ℕ} {at v i u n : ℕ} → Writing b at v i u b' → i < n → at + n ≤ length b → Writing b at v (i + 1) (u / 256) (set b' (at + i) (u % 256))
writing-more {b} {b'} {at} {v} {i} {u} w h f =
    record {
      stored = rw (little-add i 1 v, ← w.left) (stored-join w.stored (stored-byte b' (at + i) (u % 256) (omega (arith, w.stored.kept))));
      left = rw (w.left, add-one, pow-suc, ← div-div-eq-div-mul v (256 ^ i) 256);
    }

pub written : {b b' : List ℕ} {at v i u n : ℕ} → Writing b at v i u b' → i ≤ n → n ≤ i → Stored n b at (little n v) b'
written {i} {n} w h g = let e : n ≡ i = omega arith in rw e w.stored
