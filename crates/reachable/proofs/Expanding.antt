-- The laws of `expand` and `reach`: the loop over static sides. Assumes nothing.
use mathlib.Core.Path.{◌≡◌, refl, sym, ◌∙◌}
use mathlib.Core.Logic.{◌⊎◌, inl, inr, ⊎_elim}
use mathlib.Core.Bool.{true}
use mathlib.Core.List.{List, [], ◌∷◌, ◌++◌}
use Prim.Native.Nat.{ℕ, ◌+◌, ◌-◌, ◌*◌, ◌≤◌, ◌<◌}
use native.Mathlib.Omega.{arith}
use lib.ListN.{length}
use Rattle.spec.specs.Lists.{mem}
use Rattle.spec.specs.Reach.{Edge, edge, closure}
use Rattle.laws.proofs.Members.{In, in_mem, mem-in, in-only}
use Rattle.theorems.proofs.Reached.{Reached, along}
use Rattle.layout.specs.Fields.{entry_at}
use Rattle.reachable.specs.Marks.{flagged, entries}
use Rattle.reachable.specs.Edges.{sides_at, row_edges}
use Rattle.reachable.specs.Promises.{Room, Address, SidesWithin, Begun, Raised, Going, Took, Expands, Expanded, Reaches}
use Rattle.reachable.proofs.Tests.{not-both}
use Rattle.reachable.proofs.Seeds.{closure-round}
use Rattle.reachable.proofs.Flags.{flagged-within}
use Rattle.reachable.proofs.Frames.{kept_but, but-after}
use Rattle.reachable.proofs.Rows.{edge_of, of-edge, within-sides, sides-kept, edges-kept}
use Rattle.reachable.proofs.Worklist.{work_closed, more-takes}
use Rattle.reachable.proofs.Raising.{HighestBut, but-none, none-but, but-raised, but-took, raised-flagged, raised-entry, raised-entries}
use Rattle.reachable.proofs.Marks.{begun-marks, begun-highs, begun-flags, begun-flagged, begun-rows}
use Rattle.reachable.proofs.Entering.{sets-fresh}
use Rattle.reachable.proofs.Spreading.{Spreading, entries-step, start, raised-spreading, turn-got, turn_inside, turn-going, turn-less, turned, all_done, done-reached, done-sets}

-- ---- sides and edges

-- a side of what is reached is reached
pub side-reached : {es : List Edge} {seeds : List ℕ} {x y : ℕ} (w : List ℕ) (n : ℕ) → ((d : Edge) → In d (row_edges w n) → In d es) → x ≤ n → Reached es seeds x
    → mem y (sides_at w x) ≡ true → Reached es seeds y
side-reached {x} {y} w n f h r i = along (edge x x y) (f (edge x x y) (of-edge w n h (mem-in y (sides_at w x) i))) r r

-- an edge of a row leads to one of its sides
pub edge-side : {d : Edge} {x : ℕ} (w : List ℕ) (n : ℕ) → In d (row_edges w n) → (d.place ≡ x) ⊎ (d.witness ≡ x) → mem d.to (sides_at w x) ≡ true
edge-side {d} w n i o =
    let k = edge_of w n i in
    rw (← ⊎_elim (λ p. sym k.2.place ∙ p) (λ p. sym k.2.witness ∙ p) o) (in_mem d.to k.2.to)

-- ---- the loop

-- what waits has its mark, and its sides wait to be raised
pub record Extending (n when : ℕ) (w₀ w : List ℕ) (count : ℕ) : Type 0 where
  pub spreading : Spreading (row_edges w₀ n) n when w₀ w count
  pub high : HighestBut n w (entries w n count)

pub expand-start : {n when count : ℕ} {seeds v w : List ℕ} → Expands n v seeds when → Took n when seeds v 0 w count → Extending n when w w count
unfolding entries
expand-start {n} {v = v} {w} x t = record {
  spreading =
      rw (edges-kept v w n t.kept.rows)
      (start x.lent x.within (λ d i p q. x.closed.sides d.place d.to p (edge-side v n i (inl refl))) t);
  high = but-took x.some (but-none x.high) t;
}

module _ {n when count x : ℕ} {w₀ w : List ℕ} (s : Extending n when w₀ w count) (more : count ≡ 0 → ⊥) (e : x ≡ entry_at w n (count - 1)) where
  inside : x ≤ n
  inside = turn_inside s.spreading more e

  pub expand-address : Address n w x
  expand-address = record { lent = s.spreading.lent; inside = inside }

  module _ {w₁ : List ℕ} (r : Raised n (sides_at w x) w x w₁) where
    after : Spreading (row_edges w₀ n) n when w₀ w₁ count
    after = raised-spreading s.spreading r

    still : x ≡ entry_at w₁ n (count - 1)
    still = e ∙ sym (raised-entry r (count - 1))

    pub expand-going : when < 4294967296 → Going n w₁ x when (count - 1)
    expand-going = turn-going after more still

    pub expand-within : SidesWithin w₁ n
    expand-within = after.within

    module _ {w' : List ℕ} {count' : ℕ} (t : Took n when (sides_at w₁ x) w₁ (count - 1) w' count') where
      pub expand-less : 2 * (n + 1 - length (flagged w' n)) + count' < 2 * (n + 1 - length (flagged w n)) + count
      expand-less = rw (raised-flagged r) at (turn-less after more still t)

      pub expand-turn : 1 ≤ when → Extending n when w₀ w' count'
      expand-turn some =
          let same : sides_at w₁ x ≡ sides_at w₀ x = sides-kept w₀ w₁ n after.kept.rows x inside in
          let waits : HighestBut n w (x ∷ entries w n (count - 1)) = rw (entries-step w n count more, ← e) at s.high in
          record {
            spreading =
                turned after more still t (λ y i. side-reached w₀ n (λ d j. j) inside (after.work.sound x (turn-got after more still)) (rw same at i))
                (λ d i o p q. inr (more-takes t.more d.to (rw same (edge-side w₀ n i o))));
            high = but-took some (rw (raised-entries r (count - 1)) (but-raised waits inside r)) t;
          }

-- ---- the end

expand-end : {n when count : ℕ} {seeds v w₀ w : List ℕ} → Took n when seeds v 0 w₀ count → Spreading (row_edges v n) n when w₀ w 0 → HighestBut n w (entries w n 0)
    → Expanded n v seeds when w
unfolding entries
expand-end {n} {v = v} {w = w} t s h = record {
  reached = done-reached t s;
  sets = done-sets t s;
  closed = record { sides = λ x y h i. work_closed (all_done t s) (edge x x y) (of-edge v n (within x h) (mem-in y (sides_at v x) (rw (same x (within x h)) at i))) h h };
  high = none-but h;
  kept = but-after (kept_but t.kept) s.kept;
}
  where
    within : (x : ℕ) → mem x (flagged w n) ≡ true → x ≤ n
    within = flagged-within w n

    same : (x : ℕ) → x ≤ n → sides_at w x ≡ sides_at v x
    same = sides-kept v w n (s.kept.rows ∙ t.kept.rows)

pub expand-done : {n when count₀ count : ℕ} {seeds v w₀ w : List ℕ} → Took n when seeds v 0 w₀ count₀ → Extending n when w₀ w count → count ≡ 0
    → Expanded n v seeds when w
expand-done {n} {v = v} {w₀} t s z = expand-end t (rw (z, edges-kept v w₀ n t.kept.rows) at s.spreading) (rw z at s.high)

-- one batch after another: the search's rounds
pub expand-round : {n when : ℕ} {w batch w' : List ℕ} (seeds : List ℕ) → Expanded n w batch when w' → ((y : ℕ) → mem y (flagged w n) ≡ mem y (closure (row_edges w n) seeds))
    → (x : ℕ) → mem x (flagged w' n) ≡ mem x (closure (row_edges w n) (batch ++ seeds))
expand-round {n} {w} {batch} seeds e h x = e.reached x ∙ closure-round (row_edges w n) batch seeds (flagged w n) h x

-- ---- the search's start

module _ {n : ℕ} {v w : List ℕ} (r : Room n v) (s : SidesWithin v n) (b : Begun n v w) where
  pub reach-expands : Expands n w (0 ∷ []) 1
  reach-expands = record {
    lent = record { short = r.short; room = omega (arith, r.room, b.wipes.kept) };
    inside = λ a h. omega (arith, in-only (mem-in a (0 ∷ []) h));
    some = omega arith;
    small = omega arith;
    within = within-sides (sides-kept v w n (begun-rows b)) s;
    closed = record { sides = λ x t h i. not-both (rw (begun-flagged b) at h) refl };
    high = record { above = λ a t i j m. absurd (m (begun-marks b a i)); top = λ t j m. absurd (m (begun-highs b t j)) };
  }

  pub reach-done : {w' : List ℕ} → Expanded n w (0 ∷ []) 1 w' → Reaches n v w'
  reach-done {w'} e = record {
    reached = λ x. e.reached x ∙ rw (edges-kept v w n (begun-rows b), begun-flagged b);
    fresh = sets-fresh (begun-flagged b) (begun-marks b) (begun-flags b) e.sets;
    closed = e.closed;
    high = e.high;
    kept = rw b.wipes.is at e.kept;
  }
