-- What the search takes from the rows: it depends on them alone, and says which takers and which parents they are. Assumes nothing.
use mathlib.Core.Path.{◌≡◌, refl, sym, ap, ap₂, ◌∙◌}
use mathlib.Core.Option.{Option, some}
use mathlib.Core.List.{List, [], ◌∷◌, map}
use Prim.Native.Nat.{ℕ, ◌+◌, ◌*◌, ◌≤◌, ◌<◌}
use native.Mathlib.Omega.{arith}
use lib.Dec.{eqb}
use lib.ListN.{length}
use borrow.Author.Tests.{eqb-true}
use Rattle.spec.specs.Opcodes.{row, in_mode}
use Rattle.spec.specs.Walk.{instructions}
use Rattle.spec.specs.Blocks.{Block, blocks}
use Rattle.spec.specs.Stacks.{Sym, before, Stack, Ran, run}
use Rattle.spec.specs.Search.{Node, node, Taker, takes, takers, sides, Parent, parent, direct, edges}
use Rattle.spec.specs.Reach.{edge}
use Rattle.spec.specs.Answer.{prepared}
use Rattle.lent.proofs.Numbers.{num-prefix}
use Rattle.laws.proofs.Members.{In, here, there, in-keep, in-gather, in_map, gather-in, map-in}
use Rattle.theorems.proofs.Counts.{lawful}
use Rattle.theorems.proofs.Cutting.{block-afresh}
use Rattle.layout.specs.Parts.{row_place, rows_end, SameRows}
use Rattle.layout.specs.Rows.{FIRST}
use Rattle.theorems.proofs.Sides.{node-within, sides-within}
use Rattle.initial.proofs.Rows.{blocks-prefix}
pub use Rattle.parents.specs.Links.{parent_of, Comes}
use Rattle.parents.specs.Links.{Turn, turn_of, direct_to, from_of}
use Rattle.parents.specs.Promises.{Known}
use Rattle.parents.proofs.Goals.{Goes, run-goes}
use Rattle.parents.proofs.Chains.{parents-prefix, takers-prefix, Shape, takes_none, takes_one, shape}

-- all of it depends on the rows alone
pub known-prefix : {mode : ℕ} {code w : List ℕ} {many : ℕ} (v : List ℕ) → SameRows (length code) v w → Known mode code w many → Known mode code v many
known-prefix {mode} {code} {w} v e k =
    let n : ℕ = length code in
    record {
      blocks = sym (blocks-prefix w v n e) ∙ k.blocks;
      takers = takers-prefix w v n e k.takers;
      parents = λ t h. rw (sym (num-prefix w v (rows_end n) e 2 (row_place t + FIRST) (omega arith))) (parents-prefix w v n e (k.parents t h));
    }

-- a list is made of what a function keeps of each element
map-again : {A B : Type 0} (f : A → B) (g : B → A) (xs : List A) → ((x : A) → In x xs → g (f x) ≡ x) → xs ≡ map g (map f xs)
map-again f g [] h = refl
map-again {A} f g (x ∷ xs) h = ap₂ {C = List A} (λ (y : A) (ys : List A). y ∷ ys) (sym (h x here)) (map-again f g xs (λ y i. h y (there i)))

module _ (mode : ℕ) (code : List ℕ) where
  -- a taker by its start and position, with its block's own stack
  abbrev pub taker_of : Turn → Taker
  taker_of k = record { start = k.start; position = k.position; first = (run (in_mode mode) code (instructions code) k.start).stack }

  -- a block of the code, and the node that is prepared of it
  record Prepares (r : Node) : Type 0 where
    from_block : Block
    there : In from_block (blocks row code (instructions code))
    is : r ≡ node from_block (run (in_mode mode) code (instructions code) from_block.start)

  prepares : {r : Node} → In r (prepared (in_mode mode) code) → Prepares r
  unfolding prepared
  prepares i =
      let g = in_map (λ (b : Block). node b (run (in_mode mode) code (instructions code) b.start)) (blocks row code (instructions code)) i in
      record { from_block = g.0; there = g.1; is = g.2 }

  from-node : {r : Node} → In r (prepared (in_mode mode) code) → r.own ≡ run (in_mode mode) code (instructions code) r.block.start
  from-node i = rw (prepares i).is

  pub node-comes : {r : Node} → In r (prepared (in_mode mode) code) → Comes code r.block.start
  node-comes i = let g = prepares i in rw g.is (block-afresh lawful code g.there)

  -- ---- the blocks that take turns

  record Takes (r : Node) (k : Taker) : Type 0 where
    start : k.start ≡ r.block.start
    first : k.first ≡ r.own.stack
    goes : r.own.goes ≡ some (before k.position)

  shaped : {r : Node} {ks : List Taker} {k : Taker} → Shape r ks → In k ks → Takes r k
  shaped takes_none i = elim i [ ]
  shaped (takes_one p g) here = record { start = refl; first = refl; goes = g }
  shaped (takes_one p g) (there i) = elim i [ ]

  taken : {k : Taker} → In k (takers (prepared (in_mode mode) code)) → (r : Node) × In r (prepared (in_mode mode) code) × Takes r k
  taken i =
      let g = in-gather (λ (r : Node). takes r r.block.kind) (prepared (in_mode mode) code) i in
      (g.0, g.1, shaped (shape g.0 g.0.block.kind) g.2)

  pub takers-again : takers (prepared (in_mode mode) code) ≡ map taker_of (map turn_of (takers (prepared (in_mode mode) code)))
  takers-again = map-again turn_of taker_of (takers (prepared (in_mode mode) code)) made
    where
      same : (k : Taker) (s : Stack) → k.first ≡ s → s ≡ (run (in_mode mode) code (instructions code) k.start).stack → taker_of (turn_of k) ≡ k
      same k s e f = rw (← f, ← e)

      made : (k : Taker) → In k (takers (prepared (in_mode mode) code)) → taker_of (turn_of k) ≡ k
      made k i =
          let g = taken i in
          same k g.0.own.stack g.2.first
          (ap (λ (o : Ran). o.stack) (from-node g.1) ∙ ap (λ (a : ℕ). (run (in_mode mode) code (instructions code) a).stack) (sym g.2.start))

  pub taker-comes : {k : Taker} → In k (takers (prepared (in_mode mode) code)) → Comes code k.start
  taker-comes i = let g = taken i in rw g.2.start (node-comes g.1)

  pub taker-near : {k : Taker} → In k (takers (prepared (in_mode mode) code)) → k.position < 17 * length code + 17
  taker-near i = let g = taken i in let b = prepares g.1 in near (ap (λ (r : Node). r.own.goes) (sym b.is) ∙ g.2.goes) (run-goes mode code b.from_block.start)
    where
      near : {o : Option Sym} {p : ℕ} → o ≡ some (before p) → Goes (17 * length code + 17) o → p < 17 * length code + 17
      near e h = rw e at h

  -- ---- the direct parents

  record Leads (p : Parent) : Type 0 where
    by : Node
    there : In by (prepared (in_mode mode) code)
    side : ℕ
    has : In side (sides by.block.kind)
    is : p ≡ parent side (by.block.start ∷ []) by.own.stack

  leads : {p : Parent} → In p (direct (prepared (in_mode mode) code)) → Leads p
  leads {p} i =
      let g = in-gather (λ (r : Node). map (λ (u : ℕ). parent u (r.block.start ∷ []) r.own.stack) (sides r.block.kind)) (prepared (in_mode mode) code) i in
      let m = in_map (λ (u : ℕ). parent u (g.0.block.start ∷ []) g.0.own.stack) (sides g.0.block.kind) g.2 in
      record { by = g.0; there = g.1; side = m.0; has = m.1; is = m.2 }

  pub direct-within : {p : Parent} → In p (direct (prepared (in_mode mode) code)) → p.to ≤ length code
  direct-within i =
      let d = leads i in
      let b = prepares d.there in
      omega (arith, ap (λ (q : Parent). q.to) d.is, sides-within (length code) d.by.block.kind (rw b.is (node-within (in_mode mode) lawful code b.there)) d.has)

  -- it is an edge of the reached set
  pub direct-edge : {p : Parent} → In p (direct (prepared (in_mode mode) code)) → In (edge (from_of p) (from_of p) p.to) (edges (prepared (in_mode mode) code))
  direct-edge i =
      let d = leads i in
      rw d.is
      (gather-in (λ (r : Node). map (edge r.block.start r.block.start) (sides r.block.kind)) d.there (map-in (edge d.by.block.start d.by.block.start) d.has))

  pub direct-comes : {p : Parent} → In p (direct (prepared (in_mode mode) code)) → Comes code (from_of p)
  direct-comes i = let d = leads i in rw d.is (node-comes d.there)

  pub parents-again : (t : ℕ) → direct_to t (prepared (in_mode mode) code) ≡ map (parent_of mode code t) (map from_of (direct_to t (prepared (in_mode mode) code)))
  parents-again t = map-again from_of (parent_of mode code t) (direct_to t (prepared (in_mode mode) code)) made
    where
      same : (p : Parent) (u a : ℕ) (s : Stack) → p ≡ parent u (a ∷ []) s → t ≡ u → s ≡ (run (in_mode mode) code (instructions code) a).stack → parent_of mode code t (from_of p) ≡ p
      same p u a s e f g = rw (e, f, g)

      made : (p : Parent) → In p (direct_to t (prepared (in_mode mode) code)) → parent_of mode code t (from_of p) ≡ p
      made p i =
          let k = in-keep (λ (q : Parent). eqb t q.to) (direct (prepared (in_mode mode) code)) i in
          let d = leads k.1 in
          same p d.side d.by.block.start d.by.own.stack d.is (eqb-true t p.to k.0 ∙ ap (λ (q : Parent). q.to) d.is) (ap (λ (o : Ran). o.stack) (from-node d.there))
