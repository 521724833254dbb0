-- The laws of `count` and `uncount`: a turn of either stores the count of one address. Assumes nothing.
use mathlib.Core.Path.{◌≡◌, sym, ap, ◌∙◌}
use mathlib.Core.Logic.{◌⊎◌, inl, inr}
use mathlib.Core.List.{List, [], ◌∷◌}
use Prim.Native.Nat.{ℕ, ◌+◌, ◌-◌, ◌*◌, ◌^◌, ◌≤◌, ◌<◌}
use native.Mathlib.Omega.{arith}
use lib.ListN.{length}
use Rattle.spec.specs.Lists.{little}
use Rattle.lent.specs.Bytes.{Holds, Stored}
use Rattle.lent.proofs.Stored.{kept-take, kept-drop, kept-part, kept-num, read_back}
use Rattle.layout.specs.Fields.{COUNT, HIGHEST, count_at}
use Rattle.layout.specs.Parts.{rows_end, fields_place, list_place}
use Rattle.tables.specs.Addrs.{addrs}
use Rattle.tables.proofs.Addrs.{addrs-length}
use Rattle.tables.proofs.Chains.{keyed}
use Rattle.reachable.specs.Promises.{Room}
use Rattle.steps.specs.Paths.{occurs, Inside, OnPath, CountsOnly, Counted}
use Rattle.steps.proofs.Splits.{addrs-more, inside-at}
use Rattle.steps.proofs.Occurs.{occurs-append, occurs-most, occurs-one, occurs-other}
use Rattle.steps.proofs.Paths.{only-after}

-- ---- a count that is stored

module _ {n x : ℕ} (v : ℕ) {w w' : List ℕ} (l : x ≤ n) (s : Stored 4 w (fields_place n x + COUNT) (little 4 v) w') where
  store-only : CountsOnly n w w'
  store-only = record {
    front = kept-take s (rows_end n) (omega arith);
    before = λ a h. kept-part s 12 (fields_place n a) (λ k. omega arith);
    after = λ a h. kept-part s 4 (fields_place n a + HIGHEST) (λ k. omega arith);
    back = kept-drop s (list_place n) (omega arith);
    long = s.kept;
  }

  -- x is as often on another path as v says, and every other address as often as before
  store-counts : {path other : List ℕ} → OnPath n w path → v < 2 ^ 32 → v ≡ occurs x other → ((a : ℕ) → (a ≡ x → ⊥) → occurs a other ≡ occurs a path)
      → OnPath n w' other
  store-counts {path} {other} o b e f = record { counts = λ a h. go a h (keyed a x) }
    where
      go : (a : ℕ) → a ≤ n → (a ≡ x) ⊎ (a ≡ x → ⊥) → count_at w' n a ≡ occurs a other
      go a h (inl q) = rw q (read_back s b ∙ e)
      go a h (inr q) = kept-num s 4 (fields_place n a + COUNT) (λ k. omega arith) ∙ o.counts a h ∙ sym (f a q)

-- ---- an address more

module _ (p : List ℕ) (i : ℕ) {x : ℕ} (g : Holds 2 p (2 * i) x) where
  more-is : (a : ℕ) → occurs a (addrs p 0 (i + 1)) ≡ occurs a (addrs p 0 i) + occurs a (x ∷ [])
  more-is a = ap (occurs a) (addrs-more p i x g.is) ∙ occurs-append a (addrs p 0 i) (x ∷ [])

  more-here : occurs x (addrs p 0 (i + 1)) ≡ occurs x (addrs p 0 i) + 1
  more-here = omega (arith, more-is x, occurs-one x)

  more-other : (a : ℕ) → (a ≡ x → ⊥) → occurs a (addrs p 0 (i + 1)) ≡ occurs a (addrs p 0 i)
  more-other a ne = omega (arith, more-is a, occurs-other a x ne)

occurs-few : (a : ℕ) (p : List ℕ) (i : ℕ) → occurs a (addrs p 0 i) ≤ i
occurs-few a p i = omega (arith, occurs-most a (addrs p 0 i), addrs-length p 0 i)

-- ---- the turns

-- after some of them: the counts are those of the first i addresses
pub record Along (n : ℕ) (w p : List ℕ) (from to i : ℕ) (w' : List ℕ) : Type 0 where
  pub lent : Room n w
  pub in_p : 2 * to ≤ length p
  pub most : to ≤ 2 ^ 30
  pub inside : Inside n (addrs p 0 to)
  pub low : from ≤ i
  pub high : i ≤ to
  pub counted : Counted n w p i w'

module _ {n from to : ℕ} {w p : List ℕ} where
  module _ {i : ℕ} {w₁ : List ℕ} (o : Along n w p from to i w₁) where
    -- the j-th address is one of the code's, and its fields lie in W
    address : (j x : ℕ) → j < to → Holds 2 p (2 * j) x → x ≤ n
    address j x l g = inside-at p to j x o.inside l g.is

    address_room : (x : ℕ) → x ≤ n → fields_place n x + COUNT + 4 ≤ length w₁
    address_room x m = omega (arith, o.lent.room, o.counted.only.long)

    -- the counts are now those of the first j addresses
    turned : (j x v : ℕ) {w₂ : List ℕ} → x ≤ n → Stored 4 w₁ (fields_place n x + COUNT) (little 4 v) w₂ → from ≤ j → j ≤ to → v ≡ occurs x (addrs p 0 j)
        → ((a : ℕ) → (a ≡ x → ⊥) → occurs a (addrs p 0 j) ≡ occurs a (addrs p 0 i)) → Along n w p from to j w₂
    turned j x v l s lo hi e f = record {
      lent = o.lent;
      in_p = o.in_p;
      most = o.most;
      inside = o.inside;
      low = lo;
      high = hi;
      counted = record {
        counts = store-counts v l s o.counted.counts (omega (arith, o.most, occurs-few x p j)) e f;
        only = only-after o.counted.only (store-only v l s);
      };
    }

    module _ {x : ℕ} (l : i < to) (g : Holds 2 p (2 * i) x) where
      next : x ≤ n
      next = address i x l g

      pub count_room : fields_place n x + COUNT + 4 ≤ length w₁
      count_room = address_room x next

      pub count_turn : {v : ℕ} {w₂ : List ℕ} → Holds 4 w₁ (fields_place n x + COUNT) v → Stored 4 w₁ (fields_place n x + COUNT) (little 4 (v + 1)) w₂
          → Along n w p from to (i + 1) w₂
      count_turn {v} h s =
          turned (i + 1) x (v + 1) next s (omega (arith, o.low)) (omega arith) (omega (arith, h.is, o.counted.counts.counts x next, more-here p i g))
          (more-other p i g)

    module _ {x : ℕ} (l : from < i) (g : Holds 2 p (2 * (i - 1)) x) where
      last : x ≤ n
      last = address (i - 1) x (omega (arith, o.high)) g

      back : i - 1 + 1 ≡ i
      back = omega arith

      -- it is once more on the path than without its last address
      last-is : {v : ℕ} → Holds 4 w₁ (fields_place n x + COUNT) v → v ≡ occurs x (addrs p 0 (i - 1)) + 1
      last-is h = h.is ∙ o.counted.counts.counts x last ∙ rw back at (more-here p (i - 1) g)

      pub uncount-room : fields_place n x + COUNT + 4 ≤ length w₁
      uncount-room = address_room x last

      pub uncount-some : {v : ℕ} → Holds 4 w₁ (fields_place n x + COUNT) v → 1 ≤ v
      uncount-some h = omega (arith, last-is h)

      pub uncount-turn : {v : ℕ} {w₂ : List ℕ} → Holds 4 w₁ (fields_place n x + COUNT) v → Stored 4 w₁ (fields_place n x + COUNT) (little 4 (v - 1)) w₂
          → Along n w p from to (i - 1) w₂
      uncount-turn {v} h s =
          turned (i - 1) x (v - 1) last s (omega arith) (omega (arith, o.high)) (omega (arith, last-is h))
          (λ a ne. sym (rw back at (more-other p (i - 1) g a ne)))

    pub count-done : to ≤ i → Counted n w p to w₁
    count-done l = let e : i ≡ to = omega (arith, o.high) in rw e at o.counted
