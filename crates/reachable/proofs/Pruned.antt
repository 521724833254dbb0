-- The laws of pruning: all that is followed from one address, and the loop. Assumes nothing.
use mathlib.Core.Path.{◌≡◌, refl, sym, ◌∙◌}
use mathlib.Core.Logic.{◌⊎◌, inl, inr}
use mathlib.Core.Bool.{true}
use mathlib.Core.List.{List, [], ◌∷◌, ◌++◌}
use Prim.Native.Nat.{ℕ, ◌+◌, ◌-◌, ◌≤◌, ◌<◌}
use native.Mathlib.Omega.{arith}
use mir.Syntax.{w64}
use mir.Val.{Fits}
use lib.ListN.{length}
use Rattle.spec.specs.Lists.{mem}
use Rattle.spec.specs.Reach.{Edge}
use Rattle.laws.proofs.Members.{In, in_left, in_right, in-cases, or_cases}
use Rattle.theorems.proofs.Reached.{Reached, seed}
use Rattle.layout.specs.Fields.{HEADS, entry_at, head_at}
use Rattle.layout.specs.Parts.{fields_place}
use Rattle.reachable.specs.Marks.{flagged, entries}
use Rattle.reachable.specs.Edges.{sides_at, row_edges}
use Rattle.reachable.specs.Links.{edges_at}
use Rattle.reachable.specs.Promises.{Kept, Took}
use Rattle.reachable.specs.Pruning.{Waits, Spread, RowsGoing, FollowedRows, Pruning, AllGoing, FollowedEdges, FollowedAll, PrunedFrom}
use Rattle.reachable.proofs.Tests.{not-both}
use Rattle.reachable.proofs.Seeds.{reached-from}
use Rattle.reachable.proofs.Flags.{flagged-few}
use Rattle.reachable.proofs.Frames.{num-in, kept-none, kept-after}
use Rattle.reachable.proofs.Rows.{edges-kept}
use Rattle.reachable.proofs.Worklist.{more-keeps, more-takes, more-new}
use Rattle.reachable.proofs.Spreading.{Spreading, room-kept, within-kept, start, turn-got, turn-going, turned, done-reached, done-sets}
use Rattle.reachable.proofs.Expanding.{side-reached, edge-side}
use Rattle.reachable.proofs.EdgeRows.{witness-key, RowEdge, in-edges}
use Rattle.reachable.proofs.Chaining.{chains-kept}
use Rattle.reachable.proofs.Leading.{took-grew, spread-after, spread-more}

-- ---- what stays with the fields of others

pub heads-kept : {n : ℕ} {w w' : List ℕ} → Kept n w w' → (by : ℕ) → by ≤ 4 → (x : ℕ) → x ≤ n → head_at w' n by x ≡ head_at w n by x
heads-kept {n} {w} {w'} k by h x g = num-in w' w 14 (fields_place n x + HEADS) (k.fields x g) 4 (fields_place n x + (HEADS + by)) (omega arith) (omega arith)

pub pruning-kept : {n m : ℕ} {r w w' : List ℕ} → Kept n w w' → Pruning n m w r → Pruning n m w' r
pruning-kept {r} {w'} k p = record {
  lent = room-kept k p.lent;
  within = within-kept k p.within;
  rows = p.rows;
  places = chains-kept r w' r p.places (λ i h. refl) (heads-kept k 0 (omega arith)) (λ i h. refl);
  witnesses = chains-kept r w' r p.witnesses (λ i h. refl) (heads-kept k 4 (omega arith)) (λ i h. refl);
}

-- ---- the rows of one address

module _ {n m x count : ℕ} {r w : List ℕ} (g : AllGoing n m w r x count) where
  module _ {w₁ : List ℕ} {count₁ : ℕ} (a : FollowedRows n m 0 r x w count w₁ count₁) where
    pub witnesses-going : RowsGoing n m 4 w₁ r x count₁
    witnesses-going = record {
      lent = room-kept a.spread.grew.kept g.pruning.lent;
      rows = g.pruning.rows;
      key = witness-key;
      chains = (pruning-kept a.spread.grew.kept g.pruning).witnesses;
      got = more-keeps a.spread.grew.more x g.got;
      few = omega (arith, a.spread.grew.number, g.going.few);
    }

    module _ {w₂ : List ℕ} {count₂ : ℕ} (b : FollowedRows n m 4 r x w₁ count₁ w₂ count₂) where
      both-spread : Spread (edges_at r m) n w count w₂ count₂
      both-spread = spread-after a.spread b.spread

      -- a row whose place is x: its witness was flagged before, or waits
      by_place : (d : Edge) (i : ℕ) → i < m → RowEdge r i d → d.place ≡ x → (mem d.witness (flagged w n) ≡ true) ⊎ (mem d.witness (entries w₂ n count₂) ≡ true)
          → Waits (entries w₂ n count₂) d ⊎ (mem d.to (flagged w₂ n) ≡ true)
      by_place d i h e q (inl o) =
          inr (more-keeps b.spread.grew.more d.to (rw e.to (a.led i h (sym e.place ∙ q) e.leads (rw e.witness at o))))
      by_place d i h e q (inr o) = inl (inr o)

      -- a row whose witness is x: its place was, or waits
      by-witness : (d : Edge) (i : ℕ) → i < m → RowEdge r i d → d.witness ≡ x → (mem d.place (flagged w₁ n) ≡ true) ⊎ (mem d.place (entries w₂ n count₂) ≡ true)
          → Waits (entries w₂ n count₂) d ⊎ (mem d.to (flagged w₂ n) ≡ true)
      by-witness d i h e q (inl o) = inr (rw e.to (b.led i h (sym e.witness ∙ q) e.leads (rw e.place at o)))
      by-witness d i h e q (inr o) = inl (inl o)

      row-led : (d : Edge) → In d (edges_at r m) → (d.place ≡ x) ⊎ (d.witness ≡ x) → mem d.place (flagged w₂ n) ≡ true → mem d.witness (flagged w₂ n) ≡ true
          → Waits (entries w₂ n count₂) d ⊎ (mem d.to (flagged w₂ n) ≡ true)
      row-led d i (inl o) y z = let e = in-edges r m i in by_place d e.0 e.1 e.2 o (more-new both-spread.grew.more d.witness z)
      row-led d i (inr o) y z = let e = in-edges r m i in by-witness d e.0 e.1 e.2 o (more-new b.spread.grew.more d.place y)

      pub followed-edges : FollowedEdges n m r x w count w₂ count₂
      followed-edges = record { spread = both-spread; led = row-led }

-- ---- all from one address

module _ {n m x count count₁ : ℕ} {r w w₁ : List ℕ} (g : AllGoing n m w r x count) (a : Took n 1 (sides_at w x) w count w₁ count₁) where
  pub edges-going : AllGoing n m w₁ r x count₁
  edges-going = record {
    pruning = pruning-kept a.kept g.pruning;
    going = record { at = record { lent = room-kept a.kept g.going.at.lent; inside = g.going.at.inside }; small = omega arith; few = omega (arith, a.number, g.going.few) };
    got = more-keeps a.more x g.got;
  }

  sides-sound : (y : ℕ) → (mem y (sides_at w x) ≡ true) ⊎ (mem y (flagged w n) ≡ true) → Reached (row_edges w n) (flagged w n) y
  sides-sound y (inl i) = side-reached w n (λ d j. j) g.going.at.inside (seed g.got) i
  sides-sound y (inr i) = seed i

  sides-spread : Spread (row_edges w n) n w count w₁ count₁
  sides-spread = record { grew = took-grew a; sound = λ y h. sides-sound y (or_cases (mem y (sides_at w x)) (mem y (flagged w n)) (sym (a.more.all y) ∙ h)) }

  pub followed-all : {w₂ : List ℕ} {count₂ : ℕ} → FollowedEdges n m r x w₁ count₁ w₂ count₂ → FollowedAll n m r x w count w₂ count₂
  followed-all {w₂} {count₂} f = record {
    spread = spread-after (spread-more (λ d i. in_left i (edges_at r m)) sides-spread) (spread-more (λ d i. in_right (row_edges w n) i) f.spread);
    led = λ d i. led d (in-cases (row_edges w n) i);
  }
    where
      led : (d : Edge) → In d (row_edges w n) ⊎ In d (edges_at r m) → (d.place ≡ x) ⊎ (d.witness ≡ x) → mem d.place (flagged w₂ n) ≡ true
          → mem d.witness (flagged w₂ n) ≡ true → Waits (entries w₂ n count₂) d ⊎ (mem d.to (flagged w₂ n) ≡ true)
      led d (inl i) o y z = inr (more-keeps f.spread.grew.more d.to (more-takes a.more d.to (edge-side w n i o)))
      led d (inr i) o y z = f.led d i o y z

-- ---- the loop, in which the highest parents stay, and each flagged address waits or was taken

pub record GoingOn (n m : ℕ) (r w₀ w : List ℕ) (count flags : ℕ) : Type 0 where
  pub spreading : Spreading (row_edges w₀ n ++ edges_at r m) n 1 w₀ w count
  pub kept : Kept n w₀ w
  pub number : flags + count ≡ length (flagged w n)

pub prune-fits : {n m count flags : ℕ} {r w₀ w : List ℕ} → GoingOn n m r w₀ w count flags → Fits w64 (flags + 1)
prune-fits {n} {w = w} s = omega (arith, s.number, s.spreading.lent.short, flagged-few w n)

module _ {n m count₀ : ℕ} {r v w₀ : List ℕ} (p : Pruning n m v r) (t : Took n 1 (0 ∷ []) v 0 w₀ count₀) where
  pub prune-start : flagged v n ≡ [] → GoingOn n m r w₀ w₀ count₀ 0
  prune-start e =
      let none : length (flagged v n) ≡ 0 = rw e in
      record {
        spreading = start p.lent p.within (λ d i h. not-both (rw e at h) refl) t;
        kept = kept-none;
        number = omega (arith, t.number, none);
      }

  module _ {w : List ℕ} {count flags : ℕ} (s : GoingOn n m r w₀ w count flags) where
    pub prune-going : {x : ℕ} → (count ≡ 0 → ⊥) → x ≡ entry_at w n (count - 1) → AllGoing n m w r x (count - 1)
    prune-going more e =
        record { pruning = pruning-kept (kept-after t.kept s.kept) p; going = turn-going s.spreading more e (omega arith); got = turn-got s.spreading more e }

    pub prune-done : count ≡ 0 → PrunedFrom n m r v w flags
    prune-done z =
        let s' : Spreading (row_edges v n ++ edges_at r m) n 1 w₀ w 0 = rw (z, edges-kept v w₀ n t.kept.rows) at s.spreading in
        record { reached = done-reached t s'; sets = done-sets t s'; kept = kept-after t.kept s.kept; count = omega (arith, s.number, z) }

pub prune-turn : {n m count count' flags x : ℕ} {r w₀ w w' : List ℕ} → GoingOn n m r w₀ w count flags → (count ≡ 0 → ⊥) → x ≡ entry_at w n (count - 1)
    → FollowedAll n m r x w (count - 1) w' count' → GoingOn n m r w₀ w' count' (flags + 1)
prune-turn {n} {m} {r} {w₀} {w} s more e f =
    let same : row_edges w n ≡ row_edges w₀ n = edges-kept w₀ w n s.kept.rows in
    record {
      spreading = turned s.spreading more e f.spread.grew (λ y h. reached-from s.spreading.work.sound (rw same at (f.spread.sound y h))) (λ d i. f.led d (rw same i));
      kept = kept-after s.kept f.spread.grew.kept;
      number = omega (arith, s.number, f.spread.grew.number);
    }
