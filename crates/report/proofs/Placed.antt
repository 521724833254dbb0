-- Numbers in an array, read from a report, put into it, and joined to its totals. Assumes nothing.
use mathlib.Core.Path.{◌≡◌, refl, sym, ap, ap₂, ◌∙◌}
use mathlib.Core.Bool.{Bool, true, false, ◌&&◌}
use mathlib.Core.List.{List, [], ◌∷◌, ◌++◌}
use Prim.Native.Nat.{ℕ, zero, suc, ◌+◌, ◌*◌, ◌^◌, ◌≤◌, ◌<◌}
use native.Mathlib.Nat.{zero-add}
use native.Mathlib.Numerals.{add-one}
use native.Mathlib.Omega.{arith}
use native.Mathlib.Decide.{dec_lt}
use Rattle.std.specs.Prelude.{Option, Some, None, Ok, Err}
use lib.Dec.{ltb}
use lib.ListN.{length, get_or, take, drop, set, length-set}
use lib.Seq.{take-length, take-suc, take-suc-set, drop-drop, get_or-set_same, get_or-set_other}
use borrow.Author.Tests.{lt-ltb, le-ltb}
use Rattle.spec.specs.Lists.{if, little, number}
use Rattle.spec.specs.Eights.{eights, as_eights, all_fit}
use Rattle.spec.specs.Report.{join, listed, sums, totals_in}
use Rattle.laws.proofs.Branch.{and-false}
use Rattle.theorems.proofs.ReaderPlaces.{never}
use Rattle.laws.proofs.Members.{and-true, gather_append}
use Rattle.lent.specs.Bytes.{num_at, Holds, Stored}
use Rattle.lent.proofs.Stored.{stored-none, stored-join}
use Rattle.report.specs.Numbers.{joined_at, summed}
use Rattle.report.specs.Merging.{together, fitting, Summed}
use Rattle.refusal.specs.declared.Refusal.TheVariants.{Total}
use Rattle.report.proofs.Sums.{is_sum, large_sum}

-- ---- the numbers of 8 bytes

eights_at : (n : ℕ) (b : List ℕ) (k : ℕ) → k < n → get_or (eights n b) k 0 ≡ num_at 8 b (8 * k)
unfolding num_at
eights_at zero b k h = absurd (omega arith)
eights_at (suc n) b zero h = refl
eights_at (suc n) b (suc k) h =
    let e : 8 * suc k ≡ 8 + 8 * k = omega arith in
    eights_at n (drop 8 b) k (omega arith) ∙ rw (e, ← drop-drop (8 * k) 8 b)

eights-more : (n : ℕ) (b : List ℕ) → eights (suc n) b ≡ eights n b ++ (num_at 8 b (8 * n) ∷ [])
unfolding num_at
eights-more zero b = refl
eights-more (suc n) b =
    let e : 8 * suc n ≡ 8 + 8 * n = omega arith in
    ap {B = List ℕ} (λ (l : List ℕ). number (take 8 b) ∷ l) (eights-more n (drop 8 b) ∙ rw (e, ← drop-drop (8 * n) 8 b))

-- ---- reading them, one a turn

pub record Read (b ns : List ℕ) (i : ℕ) : Type 0 where
  pub within : i ≤ 15
  pub long : length ns ≡ 15
  pub is : take i ns ≡ eights i b

module _ {b ns : List ℕ} where
  pub read-start : length ns ≡ 15 → Read b ns 0
  read-start e = record { within = omega arith; long = e; is = refl }

  pub read-on : {i v : ℕ} → Read b ns i → i < 15 → Holds 8 b (8 * i) v → Read b (set ns i v) (i + 1)
  read-on {i} {v} r h k =
      record {
        within = omega arith;
        long = simp length-set r.long;
        is = rw (add-one, take-suc-set ns i v (omega (arith, r.long)), r.is, k.is) (sym (eights-more i b));
      }

  pub read-end : {i : ℕ} → Read b ns i → 15 ≤ i → ns ≡ eights 15 b
  read-end {i} r h = let e : i ≡ length ns = omega (arith, r.long, r.within) in let f : i ≡ 15 = omega (arith, r.within) in sym (take-length ns) ∙ (rw (← e) (r.is ∙ rw f))

-- ---- putting them, one a turn

pub record Putting (b ns b' : List ℕ) (i : ℕ) : Type 0 where
  pub within : i ≤ 15
  pub stored : Stored (8 * i) b 0 (as_eights (take i ns)) b'

module _ (b ns : List ℕ) where
  pub put-start : Putting b ns b 0
  put-start = record { within = omega arith; stored = stored-none b 0 (omega arith) }

  pub put_on : {b' b'' : List ℕ} {i : ℕ} → length ns ≡ 15 → Putting b ns b' i → i < 15 → Stored 8 b' (8 * i) (little 8 (get_or ns i 0)) b'' → Putting b ns b'' (i + 1)
  put_on {b'} {b''} {i} l p h s =
      let e : 8 * (i + 1) ≡ 8 * i + 8 = omega arith in
      let t : Stored 8 b' (0 + 8 * i) (little 8 (get_or ns i 0)) b'' = rw zero-add s in
      record {
        within = omega arith;
        stored = rw (e, add-one, take-suc ns i 0 (omega (arith, l)), gather_append (little 8) (take i ns) (get_or ns i 0 ∷ [])) (stored-join p.stored t);
      }

  pub put-end : {b' : List ℕ} {i : ℕ} → length ns ≡ 15 → Putting b ns b' i → 15 ≤ i → Stored 120 b 0 (as_eights ns) b'
  put-end {b'} {i} l p h =
      let f : i ≡ 15 = omega (arith, p.within) in
      let w : take 15 ns ≡ ns = rw (← l) (take-length ns) in
      let s = p.stored in
      rw (← w) (rw f at s)

-- ---- a list by its places

abbrev pub tab : ℕ → (ℕ → ℕ) → List ℕ
tab zero f = []
tab (suc n) f = f 0 ∷ tab n (λ k. f (suc k))

tab-same : (n : ℕ) (f g : ℕ → ℕ) → ((k : ℕ) → k < n → f k ≡ g k) → tab n f ≡ tab n g
tab-same zero f g h = refl
tab-same (suc n) f g h = ap₂ {C = List ℕ} (λ (x : ℕ) (xs : List ℕ). x ∷ xs) (h 0 (omega arith)) (tab-same n (λ k. f (suc k)) (λ k. g (suc k)) (λ k l. h (suc k) (omega arith)))

pub tab-is : (l : List ℕ) → tab (length l) (λ k. get_or l k 0) ≡ l
tab-is [] = refl
tab-is (x ∷ l) = ap {B = List ℕ} (λ (r : List ℕ). x ∷ r) (tab-is l)

tab-fits : (n : ℕ) (f : ℕ → ℕ) → ((k : ℕ) → k < n → f k < 2 ^ 64) → all_fit (tab n f) ≡ true
tab-fits zero f h = refl
tab-fits (suc n) f h = and-true (ltb (f 0) (2 ^ 64)) _ (lt-ltb (f 0) (2 ^ 64) (h 0 (omega arith))) (tab-fits n (λ k. f (suc k)) (λ k l. h (suc k) (omega arith)))

tab-large : (n : ℕ) (f : ℕ → ℕ) (k : ℕ) → k < n → 2 ^ 64 ≤ f k → all_fit (tab n f) ≡ false
tab-large zero f k l h = absurd (omega arith)
tab-large (suc n) f zero l h = ap (λ (t : Bool). t && all_fit (tab n (λ k. f (suc k)))) (le-ltb (f 0) (2 ^ 64) h)
tab-large (suc n) f (suc k) l h = and-false (ltb (f 0) (2 ^ 64)) (tab-large n (λ k. f (suc k)) k (omega arith) h)

-- a sum that is none
pub no-sum : {r : Option ℕ} → ((v : ℕ) → r ≡ Some v → ⊥) → r ≡ None
no-sum {r} f = by r f
  where
    by : (o : Option ℕ) → ((v : ℕ) → o ≡ Some v → ⊥) → o ≡ None
    by None f = refl
    by (Some v) f = absurd (f v refl)

-- ---- joining totals, one a turn

module _ (b ns : List ℕ) where
  -- what stands at a place afterwards
  abbrev pub placed : ℕ → ℕ
  placed k = joined_at k (num_at 8 b (8 * k)) (get_or ns k 0)

  sums-placed : sums (together b ns) ≡ tab 13 placed
  unfolding sums join totals_in if
  sums-placed =
      let step : tab 13 (λ k. joined_at k (get_or (eights 13 b) k 0) (get_or ns k 0)) ≡ tab 13 placed =
      tab-same 13 (λ k. joined_at k (get_or (eights 13 b) k 0) (get_or ns k 0)) placed (λ k l. ap (λ (x : ℕ). joined_at k x (get_or ns k 0)) (eights_at 13 b k l)) in
      step

  pub record Joining (ns' : List ℕ) (i : ℕ) : Type 0 where
    pub within : i ≤ 13
    pub long : length ns' ≡ 15
    pub done : (k : ℕ) → k < i → (get_or ns' k 0 ≡ placed k) × (placed k < 2 ^ 64)
    pub left : (k : ℕ) → i ≤ k → get_or ns' k 0 ≡ get_or ns k 0

  pub joining-start : length ns ≡ 15 → Joining ns 0
  joining-start l = record { within = omega arith; long = l; done = λ k h. absurd (omega arith); left = λ k h. refl }

  module _ {ns' : List ℕ} {i x : ℕ} {r : Option ℕ} (j : Joining ns' i) (h : i < 13) (g : Holds 8 b (8 * i) x) (e : r ≡ summed (joined_at i x (get_or ns' i 0))) where
    here-placed : joined_at i x (get_or ns' i 0) ≡ placed i
    here-placed = rw (g.is, j.left i (omega arith))

    pub joining-on : {v : ℕ} → r ≡ Some v → Joining (set ns' i v) (i + 1)
    joining-on {v} q =
        record {
          within = omega arith;
          long = simp length-set j.long;
          done = λ k l. by k l (dec_lt k i);
          left = λ k l. get_or-set_other ns' i k v 0 (λ z. omega arith) ∙ j.left k (omega arith);
        }
      where
        by : (k : ℕ) → k < i + 1 → Dec (k < i) → (get_or (set ns' i v) k 0 ≡ placed k) × (placed k < 2 ^ 64)
        by k l (no n) =
            let z : k ≡ i = omega arith in
            let s = is_sum (joined_at i x (get_or ns' i 0)) e q in
            rw z (get_or-set_same ns' i v 0 (omega (arith, j.long)) ∙ s.0 ∙ here-placed, rw (← here-placed) s.1)
        by k l (yes y) = let d = j.done k y in (get_or-set_other ns' i k v 0 (λ z. omega arith) ∙ d.0, d.1)

    pub joining-large : ((v : ℕ) → r ≡ Some v → ⊥) → Summed b ns ns' (Err Total)
    joining-large q =
        record {
          fit = ap fitting (sym (ap all_fit sums-placed ∙ tab-large 13 placed i h (rw (← here-placed) (large_sum (joined_at i x (get_or ns' i 0)) e (no-sum q)))));
          totals = λ z. never (cc);
          long = j.long;
        }

  pub joining-end : {ns' : List ℕ} {i : ℕ} → Joining ns' i → 13 ≤ i → Summed b ns ns' (Ok tt)
  unfolding sums
  joining-end {ns'} {i} j h =
      record {
        fit = ap fitting (sym (ap all_fit sums-placed ∙ tab-fits 13 placed (λ k l. (j.done k (omega (arith, j.within))).1)));
        totals = λ _. same;
        long = j.long;
      }
    where
      same : listed ns' ≡ together b ns
      same = ap listed (tab-same 13 (λ k. get_or ns' k 0) placed (λ k l. (j.done k (omega (arith, j.within))).0) ∙ sym sums-placed)
