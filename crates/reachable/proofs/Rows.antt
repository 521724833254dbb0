-- The edges of the rows: they are those of the sides of each address, and the search's own. Assumes nothing.
use mathlib.Core.Path.{◌≡◌, refl, sym, ap, subst, ◌∙◌}
use mathlib.Core.Bool.{Bool, true, false}
use mathlib.Core.List.{List, [], ◌∷◌, map, append-nil}
use Prim.Native.Nat.{ℕ, ◌≤◌}
use native.Mathlib.Decide.{ℕ_discrete}
use native.Mathlib.Omega.{arith}
use lib.Dec.{eqb}
use borrow.Author.Tests.{eq-eqb, ne_eqb}
use Rattle.spec.specs.Lists.{if, mem, gather}
use Rattle.spec.specs.Blocks.{Block}
use Rattle.spec.specs.Reach.{Edge, edge}
use Rattle.spec.specs.Search.{Node, sides, edges}
use Rattle.laws.proofs.Branch.{if-true, if-false}
use Rattle.laws.proofs.Members.{In, in-gather, in_map}
pub use Rattle.laws.proofs.Members.{gather-in, map-in}
use Rattle.layout.specs.Parts.{rows_end, SameRows}
use Rattle.layout.specs.Rows.{tag_at}
use Rattle.initial.specs.Rows.{row_blocks, kind_at, block_at, blocks_at}
use Rattle.initial.proofs.Rows.{here-prefix, blocks-prefix, found, block_in}
use Rattle.reachable.specs.Marks.{flagged}
use Rattle.reachable.specs.Edges.{sides_at, block_edges, row_edges}
use Rattle.reachable.specs.Promises.{SidesWithin, Closed}
use Rattle.reachable.proofs.Flags.{flagged-within}

-- ---- one row

one-row : (none : Bool) (b : Block) → gather (λ (c : Block). sides c.kind) (if none [] (b ∷ [])) ≡ if none [] (sides b.kind)
unfolding if
one-row true b = refl
one-row false b = append-nil (sides b.kind)

pub sides-of : (w : List ℕ) (x : ℕ) → sides_at w x ≡ if (eqb (tag_at w x) 0) [] (sides (kind_at w x))
unfolding sides_at row_blocks
sides-of w x = one-row (eqb (tag_at w x) 0) (block_at w x)

-- ---- all rows

-- an edge of the row of x
pub record EdgeOf (w : List ℕ) (e : Edge) (x : ℕ) : Type 0 where
  pub place : e.place ≡ x
  pub witness : e.witness ≡ x
  pub to : In e.to (sides_at w x)

unfoldable pub edges-from : Block → List Edge
edges-from b = map (edge b.start b.start) (sides b.kind)

module _ (w : List ℕ) (n : ℕ) where
  pub edge_of : {e : Edge} → In e (row_edges w n) → (x : ℕ) × (x ≤ n) × EdgeOf w e x
  unfolding row_edges block_edges edges-from
  edge_of {e} i =
      let g = in-gather edges-from (blocks_at w n) i in
      let f = found w n g.1 in
      let k = in_map (edge g.0.start g.0.start) (sides g.0.kind) g.2 in
      let s : sides_at w g.0.start ≡ sides g.0.kind =
      sides-of w g.0.start ∙ if-false _ _ _ (ne_eqb _ 0 f.1.starts) ∙ ap (λ (b : Block). sides b.kind) (sym f.1.same) in (
        g.0.start,
        f.0,
        record {
          place = ap (λ (d : Edge). d.place) k.2;
          witness = ap (λ (d : Edge). d.witness) k.2;
          to = subst (λ (d : Edge). In d.to (sides_at w g.0.start)) (sym k.2) (rw s k.1);
        },
      )

  pub of-edge : {t x : ℕ} → x ≤ n → In t (sides_at w x) → In (edge x x t) (row_edges w n)
  unfolding row_edges block_edges edges-from
  of-edge {t} {x} h i = split (ℕ_discrete (tag_at w x) 0)
    where
      split : Dec (tag_at w x ≡ 0) → In (edge x x t) (row_edges w n)
      split (yes e) = elim (rw (sides-of w x ∙ if-true (eqb (tag_at w x) 0) [] (sides (kind_at w x)) (eq-eqb _ 0 e)) at i) [ ]
      split (no ne) =
          gather-in edges-from (block_in w n x h ne)
          (map-in (edge x x) (rw (sides-of w x ∙ if-false (eqb (tag_at w x) 0) [] (sides (kind_at w x)) (ne_eqb _ 0 ne)) at i))

-- ---- sides that stay, whatever else of W changes

module _ {w w' : List ℕ} {n : ℕ} (e : (x : ℕ) → x ≤ n → sides_at w' x ≡ sides_at w x) where
  pub within-sides : SidesWithin w n → SidesWithin w' n
  within-sides s = record { within = λ x t h i. s.within x t h (rw (e x h) at i) }

  pub closed-sides : flagged w' n ≡ flagged w n → Closed w n → Closed w' n
  closed-sides f c = record {
    sides = λ x t h i.
        let was : mem x (flagged w n) ≡ true = rw f at h in
        rw f (c.sides x t was (rw (e x (flagged-within w n x was)) at i));
  }

-- ---- rows that stay, and the search's edges

module _ (w w' : List ℕ) (n : ℕ) (e : SameRows n w w') where
  pub sides-kept : (a : ℕ) → a ≤ n → sides_at w' a ≡ sides_at w a
  unfolding sides_at
  sides-kept a h = ap (gather (λ (b : Block). sides b.kind)) (here-prefix w' w a (rows_end n) e (omega arith))

  pub edges-kept : row_edges w' n ≡ row_edges w n
  unfolding row_edges
  edges-kept = ap block_edges (blocks-prefix w' w n e)

-- the rows of nodes have the search's edges
pub node-edges : (w : List ℕ) (n : ℕ) (ns : List Node) → blocks_at w n ≡ map (λ (r : Node). r.block) ns → row_edges w n ≡ edges ns
unfolding row_edges block_edges
node-edges w n ns e = ap block_edges e ∙ each ns
  where
    each : (ms : List Node) → block_edges (map (λ (r : Node). r.block) ms) ≡ edges ms
    each [] = refl
    each (r ∷ ms) = rw (each ms)
