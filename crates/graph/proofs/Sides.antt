-- The sides of the merged blocks are addresses of the code, or its length. Assumes nothing.
use mathlib.Core.Path.{subst}
use mathlib.Core.List.{List}
use Prim.Native.Nat.{ℕ, ◌+◌, ◌≤◌}
use native.Mathlib.Omega.{arith}
use lib.Dec.{eqb, leb}
use lib.ListN.{length}
use borrow.Author.Tests.{leb-true}
use Rattle.spec.specs.Opcodes.{row, in_mode}
use Rattle.spec.specs.Walk.{instructions}
use Rattle.spec.specs.Blocks.{Kind, terminate, jump, jumpi, dynamic_jump, dynamic_jumpi, Block, blocks}
use Rattle.spec.specs.Stacks.{run}
use Rattle.spec.specs.Search.{Node, node, sides}
use Rattle.spec.specs.Answer.{prepared}
use Rattle.laws.proofs.Branch.{both}
use Rattle.laws.proofs.Members.{In, in-only, in_map}
use Rattle.theorems.proofs.Counts.{lawful}
use Rattle.theorems.proofs.Sides.{Within, node-within, sides-within}
use Rattle.initial.specs.Rows.{blocks_at}
use Rattle.graph.specs.Notes.{note_of, by_note, merged_kind, merged_block}
use Rattle.graph.specs.Promises.{MergedAll, Fits}

prepared-within : (mode : ℕ) (code : List ℕ) {x : Node} → In x (prepared (in_mode mode) code) → Within (length code) x.block.kind
unfolding prepared
prepared-within mode code i =
    let g = in_map (λ (b : Block). node b (run (in_mode mode) code (instructions code) b.start)) (blocks row code (instructions code)) i in
    rw g.2 (node-within (in_mode mode) lawful code g.1)

merged-sides : (n note : ℕ) (k : Kind) → Within n k → {t : ℕ} → In t (sides (merged_kind n note k)) → t ≤ n
unfolding by_note
merged-sides n note (terminate success) h i = elim i [ ]
merged-sides n note (jump u) h i = sides-within n (jump u) h i
merged-sides n note (jumpi u f) h i = sides-within n (jumpi u f) h i
merged-sides n note dynamic_jump h {t} i =
    both (λ (k : Kind). In t (sides k) → t ≤ n) (eqb note 0) (λ _ j. elim j [ ])
    (λ _. both (λ (k : Kind). In t (sides k) → t ≤ n) (leb note (n + 1)) (λ e j. omega (arith, leb-true note (n + 1) e, in-only j)) (λ _ j. elim j [ ])) i
merged-sides n note (dynamic_jumpi f) h i = sides-within n (dynamic_jumpi f) h i

module _ {mode : ℕ} {code s : List ℕ} {room n m : ℕ} {w r q w₁ : List ℕ} (f : Fits mode code s room n m w r q) (t : MergedAll n m w r w₁) where
  pub block-sides : (b : Block) (u : ℕ) → In b (blocks_at w₁ n) → In u (sides b.kind) → u ≤ n
  block-sides b u i j =
      let g = in_map (merged_block n (λ (a : ℕ). note_of r a m)) (blocks_at w n) (subst (λ (bs : List Block). In b bs) t.blocks i) in
      let k = in_map (λ (x : Node). x.block) (prepared (in_mode mode) code) (subst (λ (bs : List Block). In g.0 bs) f.blocks g.1) in
      let was : Within n g.0.kind = rw k.2 (rw f.size at (prepared-within mode code k.1)) in
      merged-sides n (note_of r g.0.start m) g.0.kind was (subst (λ (c : Block). In u (sides c.kind)) g.2 j)
