-- The laws of paths: their addresses, their sums, and comparing two. Assumes nothing.
use Rattle.std.proofs.Common.{◌≡◌, ℕ, zero, suc, ◌+◌, ◌-◌, ◌*◌, ◌/◌, ◌%◌, ◌^◌, ◌<◌, ◌≤◌, Bool, true, false, ◌&&◌, eqb, List, [], ◌∷◌, length, take, drop, sym, refl, ap, ◌∙◌, ap₂, add-zero, arith, eq-eqb, ne_eqb, eqb-true}
use native.Mathlib.Nat.{sub-zero}
use native.Mathlib.Decide.{dec_lt}
use Rattle.spec.specs.Lists.{same}
use Rattle.lent.specs.Bytes.{num_at, Holds, Stored}
use Rattle.lent.proofs.Parts.{part-within, part-prefix}
use Rattle.lent.proofs.Numbers.{num-within}
use Rattle.lent.proofs.Stored.{read_all}
use Rattle.tables.specs.Addrs.{addrs, turns, path_sum, Summed, Packed, Left}
use Rattle.tables.specs.Sums.{mixed}
use Rattle.tables.proofs.Sums.{mix-low}

-- ---- addresses

pub addrs-length : (b : List ℕ) (at n : ℕ) → length (addrs b at n) ≡ n
unfolding addrs
addrs-length b at zero = refl
addrs-length b at (suc n) = ap suc (addrs-length b (at + 1) n)

addrs-step : (b : List ℕ) (at n : ℕ) → 0 < n → addrs b at n ≡ num_at 2 b (2 * at) ∷ addrs b (at + 1) (n - 1)
unfolding addrs
addrs-step b at zero h = absurd (omega arith)
addrs-step b at (suc n) h = let e : suc n - 1 ≡ n = omega arith in rw e

addrs-none : (b : List ℕ) (at n : ℕ) → n ≤ 0 → addrs b at n ≡ []
unfolding addrs
addrs-none b at zero h = refl
addrs-none b at (suc n) h = absurd (omega arith)

-- what is left from the i-th on
left_step : (b : List ℕ) (at n i : ℕ) → i < n → addrs b (at + i) (n - i) ≡ num_at 2 b (2 * (at + i)) ∷ addrs b (at + (i + 1)) (n - (i + 1))
left_step b at n i h =
    let e : n - i - 1 ≡ n - (i + 1) = omega arith in
    let a : at + i + 1 ≡ at + (i + 1) = omega arith in
    addrs-step b (at + i) (n - i) (omega arith) ∙ rw (e, a)

left-none : (b : List ℕ) (at n i : ℕ) → n ≤ i → addrs b (at + i) (n - i) ≡ []
left-none b at n i h = addrs-none b (at + i) (n - i) (omega arith)

left-all : (b : List ℕ) (at n : ℕ) → addrs b (at + 0) (n - 0) ≡ addrs b at n
left-all b at n = rw (add-zero, sub-zero)

-- equal bytes are equal addresses
pub addrs-within : (b d : List ℕ) (i j n : ℕ) → take (2 * n) (drop (2 * i) b) ≡ take (2 * n) (drop (2 * j) d) → addrs b i n ≡ addrs d j n
unfolding addrs
addrs-within b d i j zero e = refl
addrs-within b d i j (suc n) e =
    let x : num_at 2 b (2 * i) ≡ num_at 2 d (2 * j) = simp add-zero at (num-within b d (2 * suc n) (2 * i) (2 * j) e 2 0 (omega arith)) in
    let a : 2 * i + 2 ≡ 2 * (i + 1) = omega arith in
    let c : 2 * j + 2 ≡ 2 * (j + 1) = omega arith in
    rw (x, addrs-within b d (i + 1) (j + 1) n (rw (a, c) at (part-within b d (2 * suc n) (2 * i) (2 * j) e (2 * n) 2 (omega arith))))

-- those within a prefix that stays
pub addrs-prefix : (b d : List ℕ) (k i n : ℕ) → take (2 * k) b ≡ take (2 * k) d → i + n ≤ k → addrs b i n ≡ addrs d i n
addrs-prefix b d k i n e h = addrs-within b d i i n (part-prefix b d (2 * k) e (2 * n) (2 * i) (omega arith))

-- a path that was copied
pub addrs-copied : (p : List ℕ) (at np : ℕ) {q q' : List ℕ} → Stored (2 * np) q (2 * at) (take (2 * np) (drop 0 p)) q' → addrs q' at np ≡ addrs p 0 np
addrs-copied p at np {q} {q'} s = addrs-within q' p at 0 np (read_all s)

-- ---- sums

module _ (p : List ℕ) (np : ℕ) where
  module _ (first second third fourth i : ℕ) (e : turns first second third fourth (addrs p (0 + i) (np - i)) ≡ path_sum (addrs p 0 np)) where
    pub sum-again : {x y r : ℕ} → i < np → Holds 2 p (2 * i) x → y ≡ x % 2 ^ 32 → r ≡ mixed 37 first y
        → turns second third fourth r (addrs p (0 + (i + 1)) (np - (i + 1))) ≡ path_sum (addrs p 0 np)
    unfolding turns
    sum-again {x} {y} {r} h g d f =
        let z : 2 * i ≡ 2 * (0 + i) = omega arith in
        let rest : List ℕ = addrs p (0 + (i + 1)) (np - (i + 1)) in
        ap (λ (v : ℕ). turns second third fourth v rest) (f ∙ ap (mixed 37 first) d ∙ mix-low 37 first x ∙ ap (mixed 37 first) (g.is ∙ ap (num_at 2 p) z))
        ∙ sym (ap (turns first second third fourth) (left_step p 0 np i h)) ∙ e

    pub sum_done : {a b c r : ℕ} → np ≤ i → a ≡ mixed 37 first second → b ≡ mixed 37 a third → c ≡ mixed 37 b fourth → r ≡ c → r < 2 ^ 32 → Summed (addrs p 0 np) r
    unfolding turns
    sum_done {a} {b} {c} {r} h u v w d s =
        record {
          is = d ∙ w ∙ ap (λ (x : ℕ). mixed 37 x fourth) (v ∙ ap (λ (x : ℕ). mixed 37 x third) u) ∙ (rw (left-none p 0 np i h) at e);
          small = s;
        }

-- the example of docs/LAYOUT.md
path-example : path_sum (1 ∷ 2 ∷ 3 ∷ 4 ∷ 5 ∷ []) ≡ 105603
unfolding turns mixed
path-example = refl

-- ---- comparing two

pub same_true : (xs ys : List ℕ) → same xs ys ≡ true → xs ≡ ys
same_true [] [] e = refl
same_true [] (y ∷ ys) e = cc
same_true (x ∷ xs) [] e = cc
same_true (x ∷ xs) (y ∷ ys) e = go (eqb x y) refl e (same_true xs ys)
  where
    go : (b : Bool) → eqb x y ≡ b → b && same xs ys ≡ true → (same xs ys ≡ true → xs ≡ ys) → x ∷ xs ≡ y ∷ ys
    go true h g ih = ap₂ {C = List ℕ} (λ (a : ℕ) (l : List ℕ). a ∷ l) (eqb-true x y h) (ih g)
    go false h g ih = cc

pub same_false : (xs ys : List ℕ) → (xs ≡ ys → ⊥) → same xs ys ≡ false
same_false xs ys h = go (same xs ys) refl
  where
    go : (b : Bool) → same xs ys ≡ b → same xs ys ≡ false
    go true e = absurd (h (same_true xs ys e))
    go false e = e

pub packed : (b : List ℕ) (at : ℕ) {x y z v r : ℕ} → Holds 2 b (2 * at) x → Holds 2 b (2 * at + 2) y → Holds 2 b (2 * at + 4) z → Holds 2 b (2 * at + 6) v
    → r ≡ x + y * 65536 + (z + v * 65536) * 4294967296 → Packed b at r
packed b at f g h k e = record {
  is = rw (← f.is, ← g.is, ← h.is, ← k.is) (omega (arith, e));
  first = omega (arith, f.is, f.small);
  second = omega (arith, g.is, g.small);
  third = omega (arith, h.is, h.small);
  fourth = omega (arith, k.is, k.small);
}

module _ (p q : List ℕ) (np at : ℕ) where
  pub left-first : Left p np q at 0
  left-first = record { inside = omega arith; decides = rw (left-all p 0 np, left-all q at np) }

  module _ {i : ℕ} (l : Left p np q at i) where
    left_one : i < np → num_at 2 p (2 * i) ≡ num_at 2 q (2 * (at + i)) → Left p np q at (i + 1)
    left_one h d =
        let z : 2 * (0 + i) ≡ 2 * i = omega arith in
        record {
          inside = omega arith;
          decides = rw (eq-eqb (num_at 2 p (2 * i)) (num_at 2 q (2 * (at + i))) d) at (rw (left_step p 0 np i h, left_step q at np i h, z) at l.decides);
        }

-- four at a time: the lowest digit, to the base 65536, and what stands above it are known by their number
digit : (x x' y y' : ℕ) → x < 65536 → x' < 65536 → x + y * 65536 ≡ x' + y' * 65536 → (x ≡ x') × (y ≡ y')
digit x x' y y' h g e = go (dec_lt y y') (dec_lt y' y)
  where
    go : Dec (y < y') → Dec (y' < y) → (x ≡ x') × (y ≡ y')
    go (yes l) _ = absurd (omega (arith, e))
    go (no _) (yes l) = absurd (omega (arith, e))
    go (no k) (no l) = (omega (arith, e), omega arith)

pub left-four : {p q : List ℕ} {np at i x y : ℕ} → Left p np q at i → 4 ≤ np - i → Packed p i x → Packed q (at + i) y → x ≡ y → Left p np q at (i + 4)
left-four {p} {q} {np} {at} {i} {x} {y} l h f g e =
    let first = digit _ _ _ _ f.first g.first (sym f.is ∙ e ∙ g.is) in
    let second = digit _ _ _ _ f.second g.second first.1 in
    let rest = digit _ _ _ _ f.third g.third second.1 in
    let place : (k : ℕ) → 2 * (i + k) ≡ 2 * i + 2 * k = λ k. omega arith in
    let other : (k : ℕ) → 2 * (at + (i + k)) ≡ 2 * (at + i) + 2 * k = λ k. omega arith in
    let next = left_one p q np at l (omega arith) first.0 in
    let after = left_one p q np at next (omega arith) (rw (place 1, other 1) second.0) in
    let third : i + 1 + 1 ≡ i + 2 = omega arith in
    let more = left_one p q np at (rw third at after) (omega arith) (rw (place 2, other 2) rest.0) in
    let fourth : i + 2 + 1 ≡ i + 3 = omega arith in
    let end : i + 3 + 1 ≡ i + 4 = omega arith in
    rw end at (left_one p q np at (rw fourth at more) (omega arith) (rw (place 3, other 3) rest.1))

-- and so on by fours
module _ {p q : List ℕ} {np at i : ℕ} (l : Left p np q at (4 * i)) where
  pub left-fours : {x y : ℕ} → i < np / 4 → Packed p (4 * i) x → Packed q (at + 4 * i) y → x ≡ y → Left p np q at (4 * (i + 1))
  left-fours h f g e =
      let next : 4 * i + 4 ≡ 4 * (i + 1) = omega arith in
      rw next at (left-four l (omega arith) f g e)

module _ (p q : List ℕ) (np at : ℕ) {i : ℕ} (l : Left p np q at i) where
  step : {x y : ℕ} → i < np → Holds 2 p (2 * i) x → Holds 2 q (2 * (at + i)) y
      → eqb x y && same (addrs p (0 + (i + 1)) (np - (i + 1))) (addrs q (at + (i + 1)) (np - (i + 1))) ≡ same (addrs p 0 np) (addrs q at np)
  step {x} {y} h g f =
      let z : 2 * (0 + i) ≡ 2 * i = omega arith in
      rw (left_step p 0 np i h, left_step q at np i h, z, ← g.is, ← f.is) at l.decides

  pub path-differs : {x y : ℕ} → i < np → Holds 2 p (2 * i) x → Holds 2 q (2 * (at + i)) y → (x ≡ y → ⊥) → false ≡ same (addrs p 0 np) (addrs q at np)
  path-differs {x} {y} h g f d = rw (ne_eqb x y d) at (step h g f)

  pub path-again : {x y : ℕ} → i < np → Holds 2 p (2 * i) x → Holds 2 q (2 * (at + i)) y → x ≡ y → Left p np q at (i + 1)
  path-again {x} {y} h g f d = left_one p q np at l h (sym g.is ∙ d ∙ f.is)

  pub path-same : np ≤ i → true ≡ same (addrs p 0 np) (addrs q at np)
  path-same h = rw (left-none p 0 np i h, left-none q at np i h) at l.decides
