-- Pruning's closure is the definition's, where the rows hold the final blocks, and the rows of edges what their entries follow. Assumes nothing.
use mathlib.Core.Path.{◌≡◌, subst, sym}
use mathlib.Core.Logic.{◌↔◌, ◌⊎◌, inl, inr}
use mathlib.Core.List.{List, [], ◌∷◌, ◌++◌, map}
use Prim.Native.Nat.{ℕ}
use Rattle.spec.specs.Lists.{mem, gather}
use Rattle.spec.specs.Blocks.{Block}
use Rattle.spec.specs.Reach.{Edge, closure}
use Rattle.spec.specs.Ending.{Final, followed, final_edges}
use Rattle.laws.proofs.Members.{In, in_left, in_right, in-cases, in-gather, in_map}
use Rattle.initial.specs.Rows.{blocks_at}
use Rattle.reachable.specs.Edges.{block_edges, row_edges}
use Rattle.reachable.specs.Links.{edges_at}
use Rattle.reachable.proofs.Seeds.{closure-edges}
use Rattle.reachable.proofs.Rows.{gather-in, map-in, edges-from}

-- what the entries of a block follow
unfoldable pub follows : Final → List Edge
follows f = followed f.block.start f.block.kind f.entries

whole : Final → List Edge
whole f = edges-from f.block ++ follows f

module _ (w r : List ℕ) (n m : ℕ) (fs : List Final) (b : blocks_at w n ≡ map (λ (f : Final). f.block) fs)
    (e : (d : Edge) → In d (edges_at r m) ↔ In d (gather follows fs)) where
  to-finals : (d : Edge) → In d (row_edges w n) ⊎ In d (edges_at r m) → In d (gather whole fs)
  unfolding row_edges block_edges edges-from whole
  to-finals d (inl i) =
      let g = in-gather edges-from (blocks_at w n) i in
      let k = in_map (λ (f : Final). f.block) fs (subst (λ (bs : List Block). In g.0 bs) b g.1) in
      gather-in whole k.1 (in_left (subst (λ (a : Block). In d (edges-from a)) k.2 g.2) (follows k.0))
  to-finals d (inr i) = let g = in-gather follows fs ((e d).0 i) in gather-in whole g.1 (in_right (edges-from g.0.block) g.2)

  from-finals : (d : Edge) → In d (gather whole fs) → In d (row_edges w n ++ edges_at r m)
  unfolding row_edges block_edges edges-from whole
  from-finals d i = let g = in-gather whole fs i in split g.0 g.1 (in-cases (edges-from g.0.block) g.2)
    where
      split : (f : Final) → In f fs → In d (edges-from f.block) ⊎ In d (follows f) → In d (row_edges w n ++ edges_at r m)
      split f j (inl p) =
          in_left (gather-in edges-from (subst (λ (bs : List Block). In f.block bs) (sym b) (map-in (λ (g : Final). g.block) j)) p) (edges_at r m)
      split f j (inr p) = in_right (row_edges w n) ((e d).1 (gather-in follows j p))

  pub pruning-edges : (x : ℕ) → mem x (closure (row_edges w n ++ edges_at r m) (0 ∷ [])) ≡ mem x (closure (final_edges fs) (0 ∷ []))
  unfolding edges-from whole follows
  pruning-edges = closure-edges (row_edges w n ++ edges_at r m) (final_edges fs) (0 ∷ []) (λ d i. to-finals d (in-cases (row_edges w n) i)) from-finals
