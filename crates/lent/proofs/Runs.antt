-- What the slices' own fill leaves in a part of a buffer, and what the loops that copy leave. Assumes nothing.
use mathlib.Core.Path.{◌≡◌, refl, ◌∙◌}
use mathlib.Core.List.{List, ◌∷◌}
use Prim.Native.Nat.{ℕ, suc, ◌+◌, ◌-◌, ◌≤◌, ◌<◌}
use native.Mathlib.Nat.{add-zero, sub-zero, sub_self}
use native.Mathlib.Numerals.{add-one, one-add}
use native.Mathlib.Omega.{arith}
use borrow.Rule.Slice.PartMut.{put_mid}
use lib.ListN.{length, get_or, take, drop, set, replicate, length-drop, length-replicate}
use lib.Seq.{take-suc, drop-cons, drop-drop, get_or-drop}
use Rattle.lent.specs.Bytes.{patch, Stored}
use Rattle.lent.proofs.Parts.{length_part}
use Rattle.lent.proofs.Stored.{stored, stored-none, stored-join, stored-under, stored-byte, kept_byte}

module _ (b : List ℕ) (at n : ℕ) (f : at + n ≤ length b) where
  count : at + n - at ≡ n
  count = omega arith

  -- the part became xs
  stored-part : (xs m : List ℕ) → length xs ≡ n → m ≡ xs → Stored n b at xs (put_mid at (at + n - at) b m)
  unfolding patch
  stored-part xs m l e = stored n b at xs (put_mid at (at + n - at) b m) (rw (count, e, drop-drop n at b, l)) l f

  pub stored-zeros : {m : List ℕ} → m ≡ replicate (length (take (at + n - at) (drop at b))) 0 → Stored n b at (replicate n 0) (put_mid at (at + n - at) b m)
  stored-zeros {m} e =
      let k : length (take (at + n - at) (drop at b)) ≡ n = rw count (length_part n at b f) in
      stored-part (replicate n 0) m (length-replicate n 0) (rw k at e)

-- ---- the loops that store a run a byte a turn: before the first turn, after one more, and at the end

run-done : (run : ℕ → List ℕ) {b b' : List ℕ} {at i n : ℕ} → Stored i b at (run i) b' → i ≤ n → n ≤ i → Stored n b at (run n) b'
run-done run {i} {n} s h g = rw (let e : n ≡ i = omega arith in e) s

module _ (b b' : List ℕ) (at i n : ℕ) where
  -- ---- a copy of another list, from its first byte on

  module _ (l : List ℕ) (from : ℕ) where
    turn : (x : ℕ) → Stored i b at (take i (drop from l)) b' → i < n → at + n ≤ length b → from + n ≤ length l → x ≡ get_or l (from + i) 0
        → Stored (i + 1) b at (take (i + 1) (drop from l)) (set b' (at + i) x)
    turn x s h f g e =
        let k : i < length (drop from l) = simp length-drop (omega arith) in
        rw (add-one, take-suc (drop from l) i 0 k, get_or-drop, ← e, ← add-one) (stored-join s (stored-byte b' (at + i) x (omega arith)))

    pub copy_more : Stored i b at (take i (drop from l)) b' → i < n → at + n ≤ length b → from + n ≤ length l
        → Stored (i + 1) b at (take (i + 1) (drop from l)) (set b' (at + i) (get_or l (from + i) 0))
    copy_more s h f g = turn (get_or l (from + i) 0) s h f g refl

    pub copy_done : Stored i b at (take i (drop from l)) b' → i ≤ n → n ≤ i → Stored n b at (take n (drop from l)) b'
    copy_done = run-done (λ (k : ℕ). take k (drop from l))

  -- ---- a copy of the list itself

  module _ (from : ℕ) where
    -- down: what is read stands past what was stored
    pub down-more : Stored i b at (take i (drop from b)) b' → i < n → from + n ≤ length b → at ≤ from
        → Stored (i + 1) b at (take (i + 1) (drop from b)) (set b' (at + i) (get_or b' (from + i) 0))
    down-more s h g d = turn b from (get_or b' (from + i) 0) s h (omega arith) g (kept_byte s (from + i) (omega arith))

    -- up, from the last byte on: what is read stands before what was stored
    pub up_more : Stored (n - i) b (at + i) (take (n - i) (drop (from + i) b)) b' → 0 < i → i ≤ n → at + n ≤ length b → from ≤ at
        → Stored (n - (i - 1)) b (at + (i - 1)) (take (n - (i - 1)) (drop (from + (i - 1)) b)) (set b' (at + (i - 1)) (get_or b' (from + (i - 1)) 0))
    up_more s z h f g =
        let j : ℕ = i - 1 in
        let read : get_or b' (from + j) 0 ≡ get_or b (from + j) 0 = kept_byte s (from + j) (omega arith) in
        let next : suc (from + j) ≡ from + i = omega arith in
        let cons : drop (from + j) b ≡ get_or b' (from + j) 0 ∷ drop (from + i) b = rw (read, ← next) (drop-cons b (from + j) 0 (omega arith)) in
        let more : n - j ≡ suc (n - i) = omega arith in
        let place : at + i ≡ at + j + 1 = omega arith in
        rw (cons, more, ← one-add (n - i)) (stored-under (rw place at s) (stored-byte b' (at + j) (get_or b' (from + j) 0) (omega arith)))

    pub up_done : Stored (n - i) b (at + i) (take (n - i) (drop (from + i) b)) b' → i ≤ 0 → Stored n b at (take n (drop from b)) b'
    up_done s h = let e : i ≡ 0 = omega arith in simp (e, sub-zero, add-zero) at s

pub up_none : (b : List ℕ) (at from n : ℕ) → at + n ≤ length b → Stored (n - n) b (at + n) (take (n - n) (drop (from + n) b)) b
up_none b at from n f = rw sub_self (stored-none b (at + n) f)
