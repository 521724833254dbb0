-- The laws of `patch`: what stays, what is read back, and patches after patches. Assumes nothing.
use mathlib.Core.Path.{◌≡◌, refl, sym, ap, ◌∙◌}
use mathlib.Core.List.{List, [], ◌∷◌, ◌++◌, append_assoc, append-nil}
use Prim.Native.Nat.{ℕ, ◌+◌, ◌-◌, ◌≤◌, ◌<◌}
use native.Mathlib.Nat.{add-zero, zero-add}
use native.Mathlib.Numerals.{add-one}
use native.Mathlib.Decide.{dec_lt}
use native.Mathlib.Omega.{arith}
use lib.ListN.{length, take, drop, set, length-append, length-take, length-drop, take-append-drop}
use lib.Seq.{take-append-le, take_at, drop_at, length-take-le, drop-drop, drop-append-le, take-take, take-add, set_split, drop-length}
use Rattle.lent.specs.Bytes.{patch}
use Rattle.lent.proofs.Parts.{by-halves, drop_more, part-prefix, part-suffix, part-of-take}

module _ (b : List ℕ) (at : ℕ) (bs : List ℕ) (fits : at + length bs ≤ length b) where
  front : length (take at b) ≡ at
  front = length-take-le at b (omega arith)

  pub length-patch : length (patch b at bs) ≡ length b
  unfolding patch
  length-patch = simp (length-append, length-take, length-drop) (omega arith)

  drop-at-patch : drop at (patch b at bs) ≡ bs ++ drop (at + length bs) b
  unfolding patch
  drop-at-patch = drop_at (take at b) (bs ++ drop (at + length bs) b) at front

  drop-end-patch : drop (at + length bs) (patch b at bs) ≡ drop (at + length bs) b
  drop-end-patch =
      sym (drop-drop (length bs) at (patch b at bs))
      ∙ ap (λ (l : List ℕ). drop (length bs) l) drop-at-patch
      ∙ drop_at bs (drop (at + length bs) b) (length bs) refl

  -- what is before stays, and what is after
  pub take-patch : (k : ℕ) → k ≤ at → take k (patch b at bs) ≡ take k b
  unfolding patch
  take-patch k h = take-append-le k (take at b) (bs ++ drop (at + length bs) b) (omega (arith, front)) ∙ take-take k at b h

  pub drop-patch : (k : ℕ) → at + length bs ≤ k → drop k (patch b at bs) ≡ drop k b
  drop-patch k h = drop_more (patch b at bs) b (at + length bs) drop-end-patch k h

  -- a part that bs does not reach
  pub part_apart : (n i : ℕ) → (i < at + length bs → i + n ≤ at) → take n (drop i (patch b at bs)) ≡ take n (drop i b)
  part_apart n i h = go (dec_lt i (at + length bs))
    where
      go : Dec (i < at + length bs) → take n (drop i (patch b at bs)) ≡ take n (drop i b)
      go (yes l) = part-prefix (patch b at bs) b at (take-patch at (omega arith)) n i (h l)
      go (no l) = part-suffix (patch b at bs) b (at + length bs) drop-end-patch n i (omega arith)

  -- a part of bs, and the whole of it
  pub part-inside : (n o : ℕ) → o + n ≤ length bs → take n (drop (at + o) (patch b at bs)) ≡ take n (drop o bs)
  part-inside n o h =
      rw (← drop-drop o at (patch b at bs), drop-at-patch, drop-append-le o bs (drop (at + length bs) b) (omega arith))
      (take-append-le n (drop o bs) (drop (at + length bs) b) (simp length-drop (omega arith)))

  pub part-patch : take (length bs) (drop at (patch b at bs)) ≡ bs
  part-patch = rw drop-at-patch (take_at bs (drop (at + length bs) b) (length bs) refl)

  -- a prefix that ends with bs, and one that ends past it
  pub take-patch-end : take (at + length bs) (patch b at bs) ≡ take at b ++ bs
  take-patch-end = rw (take-add at (length bs), take-patch at (omega arith), part-patch)

  pub take-patch-past : (k : ℕ) → at + length bs ≤ k → take k (patch b at bs) ≡ patch (take k b) at bs
  unfolding patch
  take-patch-past k h =
      let e : at + length bs + (k - (at + length bs)) ≡ k = omega arith in
      let rest : take (k - (at + length bs)) (drop (at + length bs) b) ≡ drop (at + length bs) (take k b) = rw e at (part-of-take (k - (at + length bs)) (at + length bs) b) in
      sym (ap (λ (n : ℕ). take n (patch b at bs)) e)
      ∙ take-add (at + length bs) (k - (at + length bs)) (patch b at bs)
      ∙ rw (take-patch-end, drop-end-patch, rest, take-take at k b (omega arith)) (append_assoc (take at b) bs (drop (at + length bs) (take k b)))

pub patch-none : (b : List ℕ) (at : ℕ) → patch b at [] ≡ b
unfolding patch
patch-none b at = rw add-zero (take-append-drop at b)

pub patch-whole : (b bs : List ℕ) → length bs ≡ length b → patch b 0 bs ≡ bs
unfolding patch
patch-whole b bs e = rw (zero-add, e, drop-length, append-nil)

-- one byte
pub patch-byte : (b : List ℕ) (at x : ℕ) → at < length b → patch b at (x ∷ []) ≡ set b at x
unfolding patch
patch-byte b at x h = rw (add-one, set_split b at x h)

-- a run after a run is one run
pub patch-join : (b : List ℕ) (at : ℕ) (xs ys : List ℕ) → at + length xs ≤ length b → patch (patch b at xs) (at + length xs) ys ≡ patch b at (xs ++ ys)
unfolding patch
patch-join b at xs ys h =
    let e : at + length xs + length ys ≡ at + length (xs ++ ys) = omega (arith, length-append xs ys) in
    rw (take-patch-end b at xs h, drop-patch b at xs h (at + length xs + length ys) (omega arith), e) (simp append_assoc)

-- a run that covers an earlier one
pub patch-over : (b : List ℕ) (i : ℕ) (xs : List ℕ) (at : ℕ) (ys : List ℕ) → i + length xs ≤ length b → at ≤ i → i + length xs ≤ at + length ys
    → patch (patch b i xs) at ys ≡ patch b at ys
unfolding patch
patch-over b i xs at ys f h g = rw (take-patch b i xs f at h, drop-patch b i xs f (at + length ys) g)

-- runs that do not meet
pub patch-swap : (b : List ℕ) (i : ℕ) (xs : List ℕ) (j : ℕ) (ys : List ℕ) → i + length xs ≤ j → j + length ys ≤ length b
    → patch (patch b i xs) j ys ≡ patch (patch b j ys) i xs
patch-swap b i xs j ys h f =
    let fi : i + length xs ≤ length b = omega arith in
    let fj : j + length ys ≤ length (patch b i xs) = rw (length-patch b i xs fi) f in
    let fi' : i + length xs ≤ length (patch b j ys) = rw (length-patch b j ys f) fi in
    by-halves j (patch (patch b i xs) j ys) (patch (patch b j ys) i xs)
    (rw (take-patch (patch b i xs) j ys fj j (omega arith), take-patch-past (patch b j ys) i xs fi' j h, take-patch b j ys f j (omega arith)) (take-patch-past b i xs fi j h))
    (rw (drop-at-patch (patch b i xs) j ys fj, drop-patch (patch b j ys) i xs fi' j h, drop-at-patch b j ys f, drop-patch b i xs fi (j + length ys) (omega arith)))
