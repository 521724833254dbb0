-- Parts of lists: `take n (drop i l)` is the part of n elements from i on. Lists that agree on a prefix, a suffix or a part agree on each part within it.
-- Assumes nothing.
use mathlib.Core.Path.{◌≡◌, sym, ap, ap₂, ◌∙◌}
use mathlib.Core.List.{List, [], ◌∷◌, ◌++◌}
use Prim.Native.Nat.{ℕ, zero, suc, ◌+◌, ◌-◌, ◌≤◌}
use native.Mathlib.Nat.{zero-add, suc-add}
use native.Mathlib.Omega.{arith}
use lib.ListN.{length, take, drop, length-take, length-drop, take-append-drop}
use lib.Seq.{take-nil, take-take, drop-drop}

-- two lists that agree before k and from k on
pub by-halves : (k : ℕ) (l m : List ℕ) → take k l ≡ take k m → drop k l ≡ drop k m → l ≡ m
by-halves k l m p q = sym (take-append-drop k l) ∙ ap₂ (λ (x y : List ℕ). x ++ y) p q ∙ take-append-drop k m

pub length_part : (n i : ℕ) (l : List ℕ) → i + n ≤ length l → length (take n (drop i l)) ≡ n
length_part n i l h = simp (length-take, length-drop) (omega arith)

-- a part is a suffix of a prefix
pub part-of-take : (n i : ℕ) (l : List ℕ) → take n (drop i l) ≡ drop i (take (i + n) l)
part-of-take n zero l = rw zero-add
part-of-take n (suc i) [] = simp take-nil
part-of-take n (suc i) (x ∷ l) = rw suc-add (part-of-take n i l)

module _ (l m : List ℕ) (k : ℕ) where
  pub take_less : take k l ≡ take k m → (j : ℕ) → j ≤ k → take j l ≡ take j m
  take_less e j h = sym (take-take j k l h) ∙ ap (λ (x : List ℕ). take j x) e ∙ take-take j k m h

  pub drop_more : drop k l ≡ drop k m → (j : ℕ) → k ≤ j → drop j l ≡ drop j m
  drop_more e j h =
      let s : k + (j - k) ≡ j = omega arith in
      rw s at (sym (drop-drop (j - k) k l) ∙ ap (λ (x : List ℕ). drop (j - k) x) e ∙ drop-drop (j - k) k m)

  pub part-prefix : take k l ≡ take k m → (n i : ℕ) → i + n ≤ k → take n (drop i l) ≡ take n (drop i m)
  part-prefix e n i h = part-of-take n i l ∙ ap (λ (x : List ℕ). drop i x) (take_less e (i + n) h) ∙ sym (part-of-take n i m)

  pub part-suffix : drop k l ≡ drop k m → (n i : ℕ) → k ≤ i → take n (drop i l) ≡ take n (drop i m)
  part-suffix e n i h = ap (λ (x : List ℕ). take n x) (drop_more e i h)

pub part-within : (l m : List ℕ) (k i j : ℕ) → take k (drop i l) ≡ take k (drop j m) → (n o : ℕ) → o + n ≤ k → take n (drop (i + o) l) ≡ take n (drop (j + o) m)
part-within l m k i j e n o h = rw (← drop-drop o i l, ← drop-drop o j m) (part-prefix (drop i l) (drop j m) k e n o h)
