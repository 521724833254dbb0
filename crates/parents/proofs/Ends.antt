-- The pass is over: every row is prepared, and with the rows the blocks, those that take turns, and the parents. Assumes nothing.
use mathlib.Core.Path.{◌≡◌, refl, sym, ap, ap₂, ◌∙◌}
use mathlib.Core.Option.{Option, some}
use mathlib.Core.List.{List, [], ◌∷◌, ◌++◌, map, map-append}
use Prim.Native.Nat.{ℕ, zero, suc, ◌+◌, ◌*◌, ◌≤◌, ◌<◌}
use native.Mathlib.Omega.{arith}
use native.Mathlib.Decide.{ℕ_discrete}
use native.Mathlib.Nat.{sub-zero}
use lib.ListN.{length, take, drop}
use lib.Seq.{take-add, drop-drop}
use Rattle.spec.specs.Opcodes.{in_mode}
use Rattle.spec.specs.Walk.{instructions}
use Rattle.spec.specs.Blocks.{Block}
use Rattle.spec.specs.Stacks.{Sym, before}
use Rattle.spec.specs.Search.{Node, nodes, takers}
use Rattle.spec.specs.Answer.{prepared}
use Rattle.spec.specs.Rooms.{longest}
use Rattle.theorems.proofs.Counts.{lawful}
use Rattle.theorems.proofs.Cutting.{made}
use Rattle.layout.specs.Parts.{ROW, row_place}
use Rattle.layout.specs.Rows.{TO, FIRST, NEXT, LINKS, to_of, tag_at, type_at}
use Rattle.lent.specs.Bytes.{num_at}
use Rattle.layout.proofs.Types.{tag-range}
use Rattle.initial.specs.Rows.{type_of, row_blocks, blocks_from, blocks_at}
use Rattle.theorems.proofs.Sides.{node-within}
use Rattle.initial.proofs.Types.{kind-type}
use Rattle.initial.proofs.Rows.{here-empty, here-block}
use Rattle.parents.specs.Links.{turn_of, Parents, no_parent, Takers, no_taker, direct_to, from_of}
use Rattle.parents.specs.Rows.{turns_of, first_to, own_of, links_of, nodes_here, nodes_from, row_for}
use Rattle.parents.specs.Promises.{Lent, LentStarts, Prepared}
use Rattle.parents.proofs.Goals.{Goes, run-goes}
use Rattle.parents.proofs.Slots.{own, first, links, entry, slot_is, own-tag, own-to, own-end, own-type, none-tag}
use Rattle.parents.proofs.PrepareLoop.{Pass, Walk, walk_over, node_at, block_of, nodes-split, nodes-end, good-within}
use Rattle.parents.proofs.Chains.{small-parents, shape, Entered, entered-later, more-takers, more-parents}

-- a part of the row, and the part behind it
row_more : (w : List ℕ) (a o k m : ℕ) → take (k + m) (drop (row_place a + o) w) ≡ take k (drop (row_place a + o) w) ++ take m (drop (row_place a + (o + k)) w)
row_more w a o k m =
    let e : row_place a + o + k ≡ row_place a + (o + k) = omega arith in
    take-add k m (drop (row_place a + o) w) ∙ rw (drop-drop, e)

row-parts : (w : List ℕ) (a : ℕ) → take ROW (drop (row_place a) w) ≡ own w a ++ (first w a ++ (links w a ++ entry w a))
row-parts w a =
    let z : row_place a + 0 ≡ row_place a = omega arith in
    rw z at (row_more w a 0 FIRST 8) ∙ ap (λ (l : List ℕ). own w a ++ l) (row_more w a FIRST 2 6 ∙ ap (λ (l : List ℕ). first w a ++ l) (row_more w a NEXT LINKS 2))

goes_small : (n : ℕ) (g : Option Sym) → n ≤ longest → Goes (17 * n + 17) g → (p : ℕ) → g ≡ some (before p) → p < 4294967296
goes_small n g s h p e = let f : p < 17 * n + 17 = rw e at h in omega arith

module _ {mode : ℕ} {code w₀ : List ℕ} {end : ℕ} (l : Lent code w₀ end) {w : List ℕ} {many : ℕ} (p : Pass mode code w₀ end w 0 many) where
  all-rows : nodes (in_mode mode) code (instructions code) (blocks_at w₀ (length code)) ≡ prepared (in_mode mode) code
  unfolding prepared
  all-rows = ap (nodes (in_mode mode) code (instructions code)) l.same

  all-nodes : nodes_from mode code w₀ 0 ≡ prepared (in_mode mode) code
  all-nodes = rw sub-zero all-rows

  -- ---- one row

  module _ (a : ℕ) (h : a ≤ length code) where
    own_row : own w a ≡ own_of (nodes_here mode code w₀ a)
    own_row = p.own_done a (omega arith) h

    links-row : links w a ≡ links_of (nodes_here mode code w₀ a) (nodes_from mode code w₀ (suc a))
    links-row = p.links_done a (omega arith) h

    row_is : take ROW (drop (row_place a) w) ≡ row_for mode code w₀ a
    unfolding row_for
    row_is = row-parts w a ∙ rw (own_row, p.firsts a h, links-row, p.entries a h)

    module _ (there : tag_at w₀ a ≡ 0 → ⊥) where
      own-there : own w a ≡ own_of (node_at mode code w₀ a ∷ [])
      own-there = own_row ∙ rw (here-block w₀ a there)

      links-there : links w a ≡ links_of (node_at mode code w₀ a ∷ []) (nodes_from mode code w₀ (suc a))
      links-there = links-row ∙ rw (here-block w₀ a there)

      type-there : type_at w a ≡ type_of (node_at mode code w₀ a).block.kind
      type-there =
          let k = (node_at mode code w₀ a).block.kind in
          let g = good-within (length code) l.short k (node-within (in_mode mode) lawful code (block_of l a h there)) in
          own-type w a (type_of k) _ _ own-there g.to g.other

      to-there : num_at 2 w (row_place a + TO) ≡ to_of (type_of (node_at mode code w₀ a).block.kind)
      to-there =
          let k = (node_at mode code w₀ a).block.kind in
          let g = good-within (length code) l.short k (node-within (in_mode mode) lawful code (block_of l a h there)) in
          own-to w a (type_of k) _ _ own-there g.to

      block_row : row_blocks w a ≡ (node_at mode code w₀ a).block ∷ []
      block_row =
          let i = block_of l a h there in
          let k = (node_at mode code w₀ a).block.kind in
          let g = good-within (length code) l.short k (node-within (in_mode mode) lawful code i) in
          let t = type-there in
          let e = own-end w a (type_of k) _ _ own-there (omega (arith, (made lawful code i).end_inside, l.short)) in
          here-block w a (λ z. omega (arith, own-tag w a (type_of k) _ _ own-there, (tag-range (type_of k)).0)) ∙ rw (t, e, kind-type k)

    rows-block : row_blocks w a ≡ map (λ (x : Node). x.block) (nodes_here mode code w₀ a)
    rows-block = go (ℕ_discrete (tag_at w₀ a) 0)
      where
        go : Dec (tag_at w₀ a ≡ 0) → row_blocks w a ≡ map (λ (x : Node). x.block) (nodes_here mode code w₀ a)
        go (yes z) =
            let e = here-empty w₀ a z in
            rw e (here-empty w a (none-tag w a (own_row ∙ rw e)))
        go (no n) = rw (here-block w₀ a n) (block_row n)

  -- ---- all of them

  from-blocks : (a m : ℕ) → a + m ≤ suc (length code) → blocks_from w a m ≡ map (λ (x : Node). x.block) (nodes (in_mode mode) code (instructions code) (blocks_from w₀ a m))
  unfolding blocks_from
  from-blocks a zero h = refl
  from-blocks a (suc m) h =
      ap₂ (λ (x y : List Block). x ++ y) (rows-block a (omega arith)) (from-blocks (suc a) m (omega arith))
      ∙ sym (map-append (λ (x : Node). x.block) (nodes_here mode code w₀ a) _) ∙ ap (map (λ (x : Node). x.block)) (sym (map-append _ (row_blocks w₀ a) (blocks_from w₀ (suc a) m)))

  abbrev Chained : List Node → Type 0
  Chained rs = Takers w (length code) (length (takers rs)) (map turn_of (takers rs)) × ((t : ℕ) → Parents w (length code) t (first_to t rs) (map from_of (direct_to t rs)))

  -- the entries are those of all takers, so those of the ones from an address on too
  entered : Entered w (length code) (takers (nodes_from mode code w₀ 0))
  entered x h =
      let low : x ≤ length code = omega (arith, p.few, p.counts) in
      (low, p.entries x low)

  chained : (k a : ℕ) → a + k ≡ suc (length code) → Entered w (length code) (takers (nodes_from mode code w₀ a)) → Chained (nodes_from mode code w₀ a)
  unfolding first_to
  chained zero a e i = let z : a ≡ suc (length code) = omega arith in rw (z, nodes-end mode code w₀) (no_taker, λ t. no_parent)
  chained (suc k) a e i = rw (nodes-split mode code w₀ a (omega arith)) (go (ℕ_discrete (tag_at w₀ a) 0) (rw (nodes-split mode code w₀ a (omega arith)) at i) (chained k (suc a) (omega arith)))
    where
      go : Dec (tag_at w₀ a ≡ 0) → Entered w (length code) (takers (nodes_here mode code w₀ a ++ nodes_from mode code w₀ (suc a)))
          → (Entered w (length code) (takers (nodes_from mode code w₀ (suc a))) → Chained (nodes_from mode code w₀ (suc a)))
          → Chained (nodes_here mode code w₀ a ++ nodes_from mode code w₀ (suc a))
      go (yes z) j later = rw (here-empty w₀ a z) (later (rw (here-empty w₀ a z) at j))
      go (no n) j rest =
          let h : a ≤ length code = omega arith in
          let r : Node = node_at mode code w₀ a in
          let later : List Node = nodes_from mode code w₀ (suc a) in
          let there : Entered w (length code) (turns_of r ++ takers later) = rw (here-block w₀ a n) at j in
          let more = rest (entered-later w (length code) (turns_of r) (takers later) there) in
          rw (here-block w₀ a n) (
            more-takers w (length code) l.short r h later (shape r r.block.kind) (goes_small (length code) _ l.short (run-goes mode code r.block.start))
                (type_of r.block.kind) _ (own-there a h n) there more.0,
            more-parents w (length code) l.short a h r.own.stack later more.1 r.block.kind (node-within (in_mode mode) lawful code (block_of l a h n))
                (to-there a h n) (links-there a h n),
          )

  prepared-rows : Prepared mode code w₀ end w many
  prepared-rows =
      let c = chained (suc (length code)) 0 (omega arith) entered in
      record {
        row = row_is;
        known = record {
          blocks = from-blocks 0 (suc (length code)) (omega arith) ∙ ap (map (λ (x : Node). x.block)) all-rows;
          takers = rw (p.counts, all-nodes) (rw all-nodes at c.0);
          parents =
              λ t h. rw (slot_is FIRST w t (first_to t (nodes_from mode code w₀ 0)) (omega (arith, small-parents (c.1 t), l.short)) (p.firsts t h) ∙ ap (first_to t) all-nodes)
              (rw all-nodes at (c.1 t));
        };
        beside = p.beside;
      }

pub prepared-all : {mode : ℕ} {code w₀ : List ℕ} {end blocks : ℕ} → Lent code w₀ end → LentStarts code w₀ end blocks → {w : List ℕ} {i many : ℕ}
    → Walk mode code w₀ end blocks w i many → i ≤ 0 → Prepared mode code w₀ end w many
prepared-all l s k z = prepared-rows l (walk_over l s k z)
