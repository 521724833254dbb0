-- Along the list of the blocks' starts: which addresses an entry passes. Assumes nothing.
use mathlib.Core.Path.{◌≡◌, ap, ◌∙◌}
use mathlib.Core.List.{List, [], ◌∷◌, ◌++◌}
use Prim.Native.Nat.{ℕ, zero, suc, ◌+◌, ◌-◌, ◌≤◌, ◌<◌}
use native.Mathlib.Decide.{ℕ_discrete}
use native.Mathlib.Nat.{sub-zero}
use native.Mathlib.Omega.{arith}
use lib.ListN.{length}
use Rattle.spec.specs.Blocks.{Block, starts}
use Rattle.lent.specs.Bytes.{num_at}
use Rattle.layout.specs.Parts.{start_place}
use Rattle.layout.specs.Rows.{tag_at, starts_at}
use Rattle.initial.specs.Rows.{blocks_from, Listed}
use Rattle.initial.proofs.Rows.{from_one, here-empty, here-block}
use Rattle.reachable.specs.Promises.{Room}

-- ---- the entries, and the blocks from an address on

module _ (w : List ℕ) where
  starts-empty : (a m : ℕ) → tag_at w a ≡ 0 → starts (blocks_from w a (suc m)) ≡ starts (blocks_from w (suc a) m)
  starts-empty a m z = ap starts (from_one w a m ∙ ap (λ (bs : List Block). bs ++ blocks_from w (suc a) m) (here-empty w a z))

  starts-block : (a m : ℕ) → (tag_at w a ≡ 0 → ⊥) → starts (blocks_from w a (suc m)) ≡ a ∷ starts (blocks_from w (suc a) m)
  starts-block a m nz = ap starts (from_one w a m ∙ ap (λ (bs : List Block). bs ++ blocks_from w (suc a) m) (here-block w a nz))

  -- no entry is left, and no block
  none_left : (m a : ℕ) → [] ≡ starts (blocks_from w a m) → (b : ℕ) → a ≤ b → b < a + m → tag_at w b ≡ 0
  none_left zero a e b l h = absurd (omega arith)
  none_left (suc m) a e b l h = by-tag (none_left m (suc a)) (ℕ_discrete (tag_at w a) 0)
    where
      by-tag : ([] ≡ starts (blocks_from w (suc a) m) → (x : ℕ) → suc a ≤ x → x < suc a + m → tag_at w x ≡ 0) → Dec (tag_at w a ≡ 0) → tag_at w b ≡ 0
      by-tag later (no nz) = absurd (other (e ∙ starts-block a m nz))
        where
          other : {x : ℕ} {xs : List ℕ} → [] ≡ x ∷ xs → ⊥
          other q = omega (arith, ap length q)
      by-tag later (yes z) = at-or-past (ℕ_discrete b a)
        where
          at-or-past : Dec (b ≡ a) → tag_at w b ≡ 0
          at-or-past (yes q) = rw q z
          at-or-past (no d) = later (e ∙ starts-empty a m z) b (omega (arith, d)) (omega arith)

-- the first of the blocks from a on starts at s
pub record Next (w : List ℕ) (a m s : ℕ) (rest : List ℕ) : Type 0 where
  pub low : a ≤ s
  pub high : s < a + m
  pub tag : tag_at w s ≡ 0 → ⊥
  pub free : (b : ℕ) → a ≤ b → b < s → tag_at w b ≡ 0
  pub left : rest ≡ starts (blocks_from w (suc s) (a + m - suc s))

first-left : (w : List ℕ) (m a s : ℕ) (rest : List ℕ) → s ∷ rest ≡ starts (blocks_from w a m) → Next w a m s rest
unfolding blocks_from
first-left w zero a s rest e = absurd (other e)
  where
    other : {x : ℕ} {xs : List ℕ} → x ∷ xs ≡ [] → ⊥
    other q = omega (arith, ap length q)
first-left w (suc m) a s rest e = by-tag (first-left w m (suc a) s rest) (ℕ_discrete (tag_at w a) 0)
  where
    by-tag : (s ∷ rest ≡ starts (blocks_from w (suc a) m) → Next w (suc a) m s rest) → Dec (tag_at w a ≡ 0) → Next w a (suc m) s rest
    by-tag later (yes z) =
        let x = later (e ∙ starts-empty w a m z) in
        let same : suc a + m - suc s ≡ a + suc m - suc s = omega arith in
        record {
          low = omega (arith, x.low);
          high = omega (arith, x.high);
          tag = x.tag;
          free = λ b l h. at-or-past b l h (ℕ_discrete b a) x;
          left = rw same at x.left;
        }
      where
        at-or-past : (b : ℕ) → a ≤ b → b < s → Dec (b ≡ a) → Next w (suc a) m s rest → tag_at w b ≡ 0
        at-or-past b l h (yes q) x = rw q z
        at-or-past b l h (no d) x = x.free b (omega (arith, d)) h
    by-tag later (no nz) =
        let both : s ∷ rest ≡ a ∷ starts (blocks_from w (suc a) m) = e ∙ starts-block w a m nz in
        let is : s ≡ a = heads both in
        let same : a + suc m - suc a ≡ m = omega arith in
        rw is
        (record {
          low = omega arith;
          high = omega arith;
          tag = nz;
          free = λ b l h. absurd (omega arith);
          left = rw same (tails both);
        })
      where
        heads : {x y : ℕ} {xs ys : List ℕ} → x ∷ xs ≡ y ∷ ys → x ≡ y
        heads q = cc

        tails : {x y : ℕ} {xs ys : List ℕ} → x ∷ xs ≡ y ∷ ys → xs ≡ ys
        tails q = cc

-- ---- the walk

-- i entries are passed, and the addresses before a with them: the entries that are left are the starts of the blocks from a on
pub record Passed (w : List ℕ) (n blocks i a : ℕ) : Type 0 where
  pub inside : a ≤ n + 1
  pub order : i ≤ blocks
  pub few : i ≤ a
  pub left : starts_at w n i (blocks - i) ≡ starts (blocks_from w a (n + 1 - a))

pub passed_none : {w : List ℕ} {n blocks : ℕ} → Listed n w blocks → Passed w n blocks 0 0
passed_none {w} {n} {blocks} l =
    let all : n + 1 - 0 ≡ suc n = omega arith in
    record { inside = omega arith; order = omega arith; few = omega arith; left = rw (sub-zero, all) l.is }

module _ {w : List ℕ} {n blocks i a : ℕ} (p : Passed w n blocks i a) where
  module _ (h : i < blocks) where
    pub passed-next : Next w a (n + 1 - a) (num_at 2 w (start_place n i)) (starts_at w n (suc i) (blocks - suc i))
    unfolding starts_at
    passed-next =
        let one : blocks - i ≡ suc (blocks - suc i) = omega arith in
        first-left w (n + 1 - a) a (num_at 2 w (start_place n i)) (starts_at w n (suc i) (blocks - suc i)) (rw one at p.left)

    pub passed-room : Room n w → start_place n i + 2 ≤ length w
    passed-room r = omega (arith, passed-next.low, passed-next.high, p.few, p.inside, r.room)

    -- one entry more
    pub passed-more : {s : ℕ} → s ≡ num_at 2 w (start_place n i) → Passed w n blocks (i + 1) (s + 1)
    passed-more {s} e =
        let x = passed-next in
        let next : i + 1 ≡ suc i = omega arith in
        let behind : s + 1 ≡ suc (num_at 2 w (start_place n i)) = omega (arith, e) in
        let same : a + (n + 1 - a) - suc (num_at 2 w (start_place n i)) ≡ n + 1 - suc (num_at 2 w (start_place n i)) = omega (arith, p.inside) in
        record {
          inside = omega (arith, x.high, p.inside, e);
          order = omega arith;
          few = omega (arith, x.low, p.few, e);
          left = rw (next, behind) (rw same at x.left);
        }

  -- no entry is left
  pub passed-all : blocks ≤ i → (b : ℕ) → a ≤ b → b < n + 1 → tag_at w b ≡ 0
  unfolding starts_at
  passed-all h b l g =
      let none : blocks - i ≡ 0 = omega arith in
      none_left w (n + 1 - a) a (rw none at p.left) b l (omega (arith, p.inside))
