-- The pass over the rows, from the last to the first: those from an address on are prepared, and the others hold their blocks as they did. The list of
-- the blocks' starts leads it, past the rows without a block. Assumes nothing.
use mathlib.Core.Path.{◌≡◌, refl, sym, ap, ◌∙◌, subst}
use mathlib.Core.Option.{Option, none, some}
use mathlib.Core.List.{List, [], ◌∷◌, ◌++◌, map-append}
use Prim.Native.Nat.{ℕ, zero, suc, ◌+◌, ◌-◌, ◌≤◌, ◌<◌}
use native.Mathlib.Omega.{arith}
use native.Mathlib.Decide.{ℕ_discrete}
use native.Mathlib.Nat.{add-zero, zero-add, sub_self}
use lib.Dec.{eqb}
use lib.ListN.{length, replicate}
use Rattle.spec.specs.Opcodes.{row, in_mode}
use Rattle.spec.specs.Lists.{if, little}
use Rattle.spec.specs.Walk.{instructions}
use Rattle.spec.specs.Blocks.{Kind, terminate, jump, jumpi, dynamic_jump, dynamic_jumpi, Block, blocks, starts}
use Rattle.spec.specs.Stacks.{Sym, before, constant, jumpdest, other, run}
use Rattle.spec.specs.Search.{Node, settled, node, nodes, takers}
use Rattle.spec.specs.Rooms.{longest}
use Rattle.lent.specs.Bytes.{num_at}
use Rattle.lent.proofs.Numbers.{num-within, num-suffix}
use Rattle.laws.proofs.Branch.{both}
use Rattle.laws.proofs.Members.{In}
use Rattle.theorems.proofs.Counts.{lawful}
use Rattle.theorems.proofs.Cutting.{made, block-afresh}
use Rattle.layout.specs.Parts.{row_place, start_place}
use Rattle.layout.specs.Rows.{END, TO, OTHER, FIRST, TAKER, to_of, other_of, numbered, numbers_of, tag_at, type_at, numbers_at, starts_at}
use Rattle.layout.specs.declared.row.RowType.{RowType}
use Rattle.initial.specs.Rows.{type_of, kind_at, block_at, row_blocks, blocks_from}
use Rattle.theorems.proofs.Sides.{Within, block_within, node-within}
use Rattle.initial.proofs.Types.{Good, good}
use Rattle.initial.proofs.Rows.{here-empty, here-block, by_row, from_one, block_in}
use Rattle.initial.proofs.Listing.{list-more}
use Rattle.parents.specs.Rows.{own_bytes, link_bytes, taker_in, edge_to, first_to, own_of, links_of, nodes_here, nodes_from}
use Rattle.parents.specs.Writes.{link_sides, place, many_past, goes_at}
use Rattle.parents.specs.Promises.{Lent, LentStarts, Number, Beside, Sides, Wrote, Settles, Settled, PreparesRow, PreparedRow}
use Rattle.parents.proofs.Slots.{own, first, links, entry, own-tag, own-to, own-side, own-type, own-numbers, none-tag, none-to, none-side, Rows, rows-ran, rows_as, rows-sides, rows-placed}
use Rattle.parents.proofs.Starts.{Last, last-start, no_start, starts_none}
use Rattle.parents.proofs.Settling.{none-own, none-links, slot-zero, no-first, no-entry, block-own, block-links, looks, settles}

-- the block that starts at an address, with its own run
abbrev pub node_at : ℕ → List ℕ → List ℕ → ℕ → Node
node_at mode code w a = node (block_at w a) (run (in_mode mode) code (instructions code) a)

abbrev pub goes_from : ℕ → List ℕ → ℕ → Option Sym
goes_from mode code a = (run (in_mode mode) code (instructions code) a).goes

abbrev pub last_at : List ℕ → ℕ → ℕ
last_at w a = num_at 2 w (row_place a + END)

-- ---- the blocks from an address on

pub nodes-split : (mode : ℕ) (code w : List ℕ) (a : ℕ) → a ≤ length code → nodes_from mode code w a ≡ nodes_here mode code w a ++ nodes_from mode code w (suc a)
nodes-split mode code w a h =
    let e : suc (length code) - a ≡ suc (length code - a) = omega arith in
    let f : suc (length code) - suc a ≡ length code - a = omega arith in
    rw (e, f, from_one w a (length code - a)) (map-append _ (row_blocks w a) (blocks_from w (suc a) (length code - a)))

pub nodes-end : (mode : ℕ) (code w : List ℕ) → nodes_from mode code w (suc (length code)) ≡ []
unfolding blocks_from
nodes-end mode code w = rw (sub_self (suc (length code)))

edge-small : (n x a : ℕ) → a ≤ n → (k : Kind) (later : ℕ) → later ≤ n + 1 → edge_to x a k later ≤ n + 1
edge-small n x a h (terminate success) later l = l
edge-small n x a h (jump u) later l = both (λ (v : ℕ). v ≤ n + 1) (eqb x u) (λ _. omega arith) (λ _. l)
edge-small n x a h (jumpi u f) later l =
    both (λ (v : ℕ). v ≤ n + 1) (eqb x u) (λ _. omega arith) (λ _. both (λ (v : ℕ). v ≤ n + 1) (eqb x f) (λ _. omega arith) (λ _. l))
edge-small n x a h dynamic_jump later l = l
edge-small n x a h (dynamic_jumpi f) later l = both (λ (v : ℕ). v ≤ n + 1) (eqb x f) (λ _. omega arith) (λ _. l)

module _ (mode : ℕ) (code w : List ℕ) where
  from-small : (x a m : ℕ) → a + m ≤ suc (length code) → first_to x (nodes (in_mode mode) code (instructions code) (blocks_from w a m)) ≤ length code + 1
  unfolding blocks_from first_to
  from-small x a zero h = omega arith
  from-small x a (suc m) h =
      let later = from-small x (suc a) m (omega arith) in
      by_row w a (λ (bs : List Block). first_to x (nodes (in_mode mode) code (instructions code) (bs ++ blocks_from w (suc a) m)) ≤ length code + 1) (λ _. later)
      (λ _. edge-small (length code) x a (omega arith) (settled (run (in_mode mode) code (instructions code) a).goes (kind_at w a)) (first_to x (nodes (in_mode mode) code (instructions code) (blocks_from w (suc a) m))) later)

  pub first_small : length code ≤ longest → (a : ℕ) → a ≤ suc (length code) → (x : ℕ) → first_to x (nodes_from mode code w a) < 65536
  first_small h a l x = omega (arith, from-small x a (suc (length code) - a) (omega arith))

-- ---- kinds whose sides lie in the code

module _ (n : ℕ) where
  type-to : (k : Kind) → Within n k → to_of (type_of k) ≤ n
  type-to (terminate success) h = omega arith
  type-to (jump t) h = omega arith
  type-to (jumpi t f) h = omega (arith, h.0)
  type-to dynamic_jump h = omega arith
  type-to (dynamic_jumpi f) h = omega arith

  type-other : (k : Kind) → Within n k → other_of (type_of k) ≤ n
  type-other (terminate success) h = omega arith
  type-other (jump t) h = omega arith
  type-other (jumpi t f) h = h.1
  type-other dynamic_jump h = omega arith
  type-other (dynamic_jumpi f) h = h.1

  pub good-within : n ≤ longest → (k : Kind) → Within n k → Good (type_of k)
  good-within s k h = good k (omega (arith, type-to k h)) (omega (arith, type-other k h))

-- ---- the pass

pub record Pass (mode : ℕ) (code w₀ : List ℕ) (end : ℕ) (w : List ℕ) (a many : ℕ) : Type 0 where
  pub own_ahead : (x : ℕ) → x < a → own w x ≡ own w₀ x
  pub links_ahead : (x : ℕ) → x < a → links w x ≡ links w₀ x
  pub own_done : (x : ℕ) → a ≤ x → x ≤ length code → own w x ≡ own_of (nodes_here mode code w₀ x)
  pub links_done : (x : ℕ) → a ≤ x → x ≤ length code → links w x ≡ links_of (nodes_here mode code w₀ x) (nodes_from mode code w₀ (suc x))
  pub firsts : (x : ℕ) → x ≤ length code → first w x ≡ little 2 (first_to x (nodes_from mode code w₀ a))
  pub entries : (x : ℕ) → x ≤ length code → entry w x ≡ little 2 (taker_in x (takers (nodes_from mode code w₀ a)))
  pub counts : many ≡ length (takers (nodes_from mode code w₀ a))
  pub few : many + a ≤ suc (length code)
  pub beside : Beside code w₀ end w
  pub inside : a ≤ suc (length code)

pass-none : {mode : ℕ} {code w : List ℕ} {end : ℕ} → Lent code w end → Pass mode code w end w (length code + 1) 0
unfolding first_to taker_in
pass-none {mode} {code} {w} l =
    let e : length code + 1 ≡ suc (length code) = omega arith in
    let z = nodes-end mode code w in
    record {
      own_ahead = λ x h. refl;
      links_ahead = λ x h. refl;
      own_done = λ x h g. absurd (omega arith);
      links_done = λ x h g. absurd (omega arith);
      firsts = λ x h. rw (e, z) (slot-zero l.laid x h FIRST (omega arith) no-first);
      entries = λ x h. rw (e, z) (slot-zero l.laid x h TAKER (omega arith) no-entry);
      counts = rw (e, z);
      few = omega arith;
      beside = record { between = refl; past = refl; kept = refl };
      inside = omega arith;
    }

one_more : (many : ℕ) (g : Option Sym) → many_past g many ≤ many + 1
one_more many none = omega arith
one_more many (some (before p)) = omega arith
one_more many (some (constant v)) = omega arith
one_more many (some (jumpdest to)) = omega arith
one_more many (some (other pc)) = omega arith

-- ---- one row

-- the block of a row that has one
pub block_of : {code w : List ℕ} {end : ℕ} → Lent code w end → (a : ℕ) → a ≤ length code → (tag_at w a ≡ 0 → ⊥) → In (block_at w a) (blocks row code (instructions code))
block_of {code} {w} l a g h = rw (← l.same) (block_in w (length code) a g h)

module _ {mode : ℕ} {code w₀ : List ℕ} {end : ℕ} (l : Lent code w₀ end) {w : List ℕ} {a many : ℕ} (p : Pass mode code w₀ end w (suc a) many) where
  here : a ≤ length code
  here = omega (arith, p.inside)

  tag_same : tag_at w a ≡ tag_at w₀ a
  tag_same = rw add-zero at (num-within w w₀ FIRST (row_place a) (row_place a) (p.own_ahead a (omega arith)) 1 0 (omega arith))

  block-there : (tag_at w₀ a ≡ 0 → ⊥) → In (block_at w₀ a) (blocks row code (instructions code))
  block-there h = block_of l a here h

  settles-row : Settles code w end a many
  settles-row =
      record {
        stands = λ h. block-afresh lawful code (block-there (λ z. omega (arith, tag_same)));
        short = l.short;
        row = here;
        few = omega (arith, p.few);
        room = l.room;
        inside = omega (arith, l.inside, p.beside.kept);
      }

  module _ {w₁ : List ℕ} {r : ℕ} (s : Settled mode code w end a many w₁ r) where
    ran : Rows code w₀ end a w s.after (own w a) (links w a) (λ x. first_to x (nodes_from mode code w₀ (suc a))) (λ x. taker_in x (takers (nodes_from mode code w₀ (suc a))))
    ran = rows-ran l.room l.inside here p.beside p.firsts p.entries s.ran

    -- after the first stage, with these blocks at a: the row's type, whose sides lie in the code
    record Half (hs : List Node) (t : RowType) : Type 0 where
      rows : Rows code w₀ end a w w₁ (own_of hs) (link_bytes 0 0) (λ x. first_to x (nodes_from mode code w₀ (suc a))) (λ x. taker_in x (takers (hs ++ nodes_from mode code w₀ (suc a))))
      type : numbers_at w₁ a ≡ t
      to : num_at 2 w₁ (row_place a + TO) ≤ length code
      other : num_at 2 w₁ (row_place a + OTHER) ≤ length code

    half-sides : {hs : List Node} {t : RowType} → Half hs t → Sides w₁ a
    half-sides h =
        record {
          own = omega (arith, here, l.inside, l.room, h.rows.beside.kept);
          to = omega (arith, l.inside, l.room, h.rows.beside.kept, h.to);
          other = omega (arith, l.inside, l.room, h.rows.beside.kept, h.other);
        }

    -- where no block starts
    module _ (none-there : tag_at w₀ a ≡ 0) where
      half-none : Half [] (numbered 0 0 0)
      unfolding place goes_at if
      half-none =
          let e : row_blocks w₀ a ≡ [] = here-empty w₀ a none-there in
          let o : own w a ≡ replicate FIRST 0 = p.own_ahead a (omega arith) ∙ none-own l.laid a here e in
          let k : links w a ≡ link_bytes 0 0 = p.links_ahead a (omega arith) ∙ none-links l.laid a here e in
          let q : w₁ ≡ s.after = s.is ∙ rw (tag_same, none-there) in
          let d : Rows code w₀ end a w w₁ (replicate FIRST 0) (link_bytes 0 0) (λ x. first_to x (nodes_from mode code w₀ (suc a))) (λ x. taker_in x (takers (nodes_from mode code w₀ (suc a)))) = rw (q, ← o, ← k) ran in
          record {
            rows = d;
            type = rw (none-tag w₁ a d.own_here, none-to w₁ a d.own_here, none-side w₁ a d.own_here);
            to = omega (arith, none-to w₁ a d.own_here);
            other = omega (arith, none-side w₁ a d.own_here);
          }

      count_none : r ≡ length (takers (nodes_from mode code w₀ (suc a)))
      unfolding goes_at if
      count_none = s.count ∙ rw (tag_same, none-there) p.counts

    -- where a block starts
    module _ (there : tag_at w₀ a ≡ 0 → ⊥) where
      within : Within (length code) (kind_at w₀ a)
      within = block_within (in_mode mode) lawful code (block-there there)

      small : last_at w₀ a < 65536
      small = omega (arith, (made lawful code (block-there there)).end_inside, l.short)

      row-own : own w a ≡ own_bytes (last_at w₀ a) (type_of (kind_at w₀ a)) 0
      row-own = p.own_ahead a (omega arith) ∙ block-own l.laid a here (here-block w₀ a there)

      row-links : links w a ≡ link_bytes 0 0
      row-links = p.links_ahead a (omega arith) ∙ block-links l.laid a here (here-block w₀ a there)

      row_type : type_at w a ≡ type_of (kind_at w₀ a)
      row_type =
          let g = good-within (length code) l.short (kind_at w₀ a) within in
          own-type w a (type_of (kind_at w₀ a)) (last_at w₀ a) 0 row-own g.to g.other

      goes-looks : goes_at mode code w a ≡ looks (kind_at w₀ a) (goes_from mode code a)
      unfolding goes_at
      goes-looks = rw (own-tag w a (type_of (kind_at w₀ a)) (last_at w₀ a) 0 row-own)

      half-block : Half (node_at mode code w₀ a ∷ []) (numbers_of (type_of (node_at mode code w₀ a).block.kind))
      half-block =
          let x = settles a (last_at w₀ a) (run (in_mode mode) code (instructions code) a).stack (nodes_from mode code w₀ (suc a)) (kind_at w₀ a) (goes_from mode code a) in
          let q : w₁ ≡ place s.after a (type_of (kind_at w₀ a)) (looks (kind_at w₀ a) (goes_from mode code a)) (length (takers (nodes_from mode code w₀ (suc a)))) = s.is ∙ rw (row_type, goes-looks, p.counts) in
          let low : length (takers (nodes_from mode code w₀ (suc a))) ≤ length code = omega (arith, p.few, p.counts) in
          let d = rows-placed l.room l.inside here (type_of (kind_at w₀ a)) (last_at w₀ a) (length (takers (nodes_from mode code w₀ (suc a)))) small low (rw (row-own, row-links) at ran) (looks (kind_at w₀ a) (goes_from mode code a)) q in
          let f : Rows code w₀ end a w w₁ (own_of (node_at mode code w₀ a ∷ [])) (link_bytes 0 0) (λ y. first_to y (nodes_from mode code w₀ (suc a))) (λ y. taker_in y (takers (node_at mode code w₀ a ∷ nodes_from mode code w₀ (suc a)))) =
          rows_as l.room l.inside here (rw x.own_is at d) _ _ (λ y. refl) x.entries_are in
          let v = node-within (in_mode mode) lawful code (block-there there) in
          let g = good-within (length code) l.short (node_at mode code w₀ a).block.kind v in
          record {
            rows = f;
            type = own-numbers w₁ a (type_of (node_at mode code w₀ a).block.kind) (last_at w₀ a) _ f.own_here g.to g.other;
            to = rw (own-to w₁ a (type_of (node_at mode code w₀ a).block.kind) (last_at w₀ a) _ f.own_here g.to) (type-to (length code) (node_at mode code w₀ a).block.kind v);
            other =
                rw (own-side w₁ a (type_of (node_at mode code w₀ a).block.kind) (last_at w₀ a) _ f.own_here g.other) (type-other (length code) (node_at mode code w₀ a).block.kind v);
          }

      count-block : r ≡ length (takers (node_at mode code w₀ a ∷ nodes_from mode code w₀ (suc a)))
      count-block =
          let x = settles a (last_at w₀ a) (run (in_mode mode) code (instructions code) a).stack (nodes_from mode code w₀ (suc a)) (kind_at w₀ a) (goes_from mode code a) in
          s.count ∙ rw (goes-looks, p.counts) x.count_is

    settled-sides : Sides w₁ a
    settled-sides = go (ℕ_discrete (tag_at w₀ a) 0)
      where
        go : Dec (tag_at w₀ a ≡ 0) → Sides w₁ a
        go (yes z) = half-sides (half-none z)
        go (no n) = half-sides (half-block n)

    -- after both: the row is prepared
    module _ {w₂ : List ℕ} (d : Wrote w₁ w₂ (link_sides w₁ a (numbers_at w₁ a))) where
      record Turned (hs : List Node) : Type 0 where
        rows : Rows code w₀ end a w w₂ (own_of hs) (links_of hs (nodes_from mode code w₀ (suc a))) (λ x. first_to x (hs ++ nodes_from mode code w₀ (suc a)))
            (λ x. taker_in x (takers (hs ++ nodes_from mode code w₀ (suc a))))
        count_is : r ≡ length (takers (hs ++ nodes_from mode code w₀ (suc a)))

      turned_none : tag_at w₀ a ≡ 0 → Turned []
      unfolding link_sides if
      turned_none z =
          let h = half-none z in
          record { rows = rw (d.is ∙ ap (link_sides w₁ a) h.type) h.rows; count_is = count_none z }

      turned-block : (tag_at w₀ a ≡ 0 → ⊥) → Turned (node_at mode code w₀ a ∷ [])
      unfolding first_to
      turned-block n =
          let h = half-block n in
          record {
            rows =
                rows-sides l.room l.inside here (nodes_from mode code w₀ (suc a))
                (first_small mode code w₀ l.short (suc a) p.inside) (node_at mode code w₀ a).block.kind (node-within (in_mode mode) lawful code (block-there n)) h.rows
                (d.is ∙ ap (link_sides w₁ a) h.type);
            count_is = count-block n;
          }

      turned : Turned (nodes_here mode code w₀ a)
      turned = go (ℕ_discrete (tag_at w₀ a) 0)
        where
          go : Dec (tag_at w₀ a ≡ 0) → Turned (nodes_here mode code w₀ a)
          go (yes z) = rw (here-empty w₀ a z) (turned_none z)
          go (no n) = rw (here-block w₀ a n) (turned-block n)

      passed : Pass mode code w₀ end w₂ a r
      passed =
          let t = turned in
          let e = nodes-split mode code w₀ a here in
          record {
            own_ahead = λ x h. t.rows.own-other x (omega (arith, here)) (λ q. omega arith) ∙ p.own_ahead x (omega arith);
            links_ahead = λ x h. t.rows.links-other x (omega (arith, here)) (λ q. omega arith) ∙ p.links_ahead x (omega arith);
            own_done = λ x h g. own_at x h g (ℕ_discrete x a);
            links_done = λ x h g. links-at x h g (ℕ_discrete x a);
            firsts = λ x h. rw e (t.rows.firsts x h);
            entries = λ x h. rw e (t.rows.entries x h);
            counts = rw e t.count_is;
            few = omega (arith, p.few, s.count, one_more many (goes_at mode code w a));
            beside = t.rows.beside;
            inside = omega (arith, here);
          }
        where
          own_at : (x : ℕ) → a ≤ x → x ≤ length code → Dec (x ≡ a) → own w₂ x ≡ own_of (nodes_here mode code w₀ x)
          own_at x h g (yes q) = rw q turned.rows.own_here
          own_at x h g (no n) = turned.rows.own-other x g n ∙ p.own_done x (omega arith) g

          links-at : (x : ℕ) → a ≤ x → x ≤ length code → Dec (x ≡ a) → links w₂ x ≡ links_of (nodes_here mode code w₀ x) (nodes_from mode code w₀ (suc x))
          links-at x h g (yes q) = rw q turned.rows.links-here
          links-at x h g (no n) = turned.rows.links-other x g n ∙ p.links_done x (omega arith) g

-- ---- the addresses at which no block starts

module _ {mode : ℕ} {code w₀ : List ℕ} {end : ℕ} (l : Lent code w₀ end) {w : List ℕ} {many : ℕ} where
  -- a row without a block is prepared as it is
  pass-empty : {a : ℕ} → Pass mode code w₀ end w (suc a) many → tag_at w₀ a ≡ 0 → Pass mode code w₀ end w a many
  unfolding link_sides place goes_at if
  pass-empty {a} p z =
      let e : tag_at w a ≡ 0 = tag_same l p ∙ z in
      let s : Settled mode code w end a many w many =
      record { after = w; ran = record { front = refl; back = refl; kept = refl }; is = rw e; count = rw e; kept = refl } in
      passed l p s (record { is = rw e; kept = refl })

  pass-down : (b a : ℕ) → Pass mode code w₀ end w a many → b ≤ a → ((x : ℕ) → b ≤ x → x < a → tag_at w₀ x ≡ 0) → Pass mode code w₀ end w b many
  pass-down b zero p h none-there = let e : zero ≡ b = omega arith in subst (λ (j : ℕ). Pass mode code w₀ end w j many) e p
  pass-down b (suc a) p h none-there =
      go (ℕ_discrete (suc a) b) (λ g. pass-down b a (pass-empty p (none-there a g (omega arith))) g (λ x k j. none-there x k (omega arith)))
    where
      go : Dec (suc a ≡ b) → (b ≤ a → Pass mode code w₀ end w b many) → Pass mode code w₀ end w b many
      go (yes e) lower = subst (λ (j : ℕ). Pass mode code w₀ end w j many) e p
      go (no n) lower = lower (omega arith)

-- ---- as the loop has it: the entries that are left are the starts below the address

pub record Walk (mode : ℕ) (code w₀ : List ℕ) (end blocks : ℕ) (w : List ℕ) (left many : ℕ) : Type 0 where
  pub at : ℕ
  pub pass : Pass mode code w₀ end w at many
  pub ahead : starts_at w₀ (length code) 0 left ≡ starts (blocks_from w₀ 0 at)
  pub few : left ≤ blocks

pub walk_none : {mode : ℕ} {code w : List ℕ} {end blocks : ℕ} → Lent code w end → LentStarts code w end blocks → Walk mode code w end blocks w blocks 0
walk_none {code = code} l s =
    let e : length code + 1 ≡ suc (length code) = omega arith in
    record { at = length code + 1; pass = pass-none l; ahead = rw e s.listed.is; few = omega arith }

module _ {mode : ℕ} {code w₀ : List ℕ} {end blocks : ℕ} (l : Lent code w₀ end) (ls : LentStarts code w₀ end blocks) {w : List ℕ} {i many : ℕ}
    (k : Walk mode code w₀ end blocks w i many) where
  module _ (some_left : 0 < i) where
    module _ {b : ℕ} (read : Number b (num_at 2 w (start_place (length code) (i - 1))) 2) where
      read_is : b ≡ num_at 2 w₀ (start_place (length code) (i - 1))
      read_is = read.is ∙ num-suffix w w₀ end k.pass.beside.past 2 (start_place (length code) (i - 1)) (omega (arith, ls.before))

      found : Last w₀ k.at (starts_at w₀ (length code) 0 (i - 1)) b
      found =
          let e : i ≡ suc (i - 1) = omega arith in
          last-start w₀ k.at (starts_at w₀ (length code) 0 (i - 1)) b
          (sym k.ahead ∙ ap (starts_at w₀ (length code) 0) e ∙ list-more (length code) w₀ 0 (i - 1) ∙ rw (zero-add, read_is))

      back : Pass mode code w₀ end w (suc b) many
      back = pass-down l (suc b) k.at k.pass (omega (arith, found.below)) (λ x g h. found.none-past x g h)

      pub walk-row : PreparesRow mode code w end b many
      walk-row = record { settles = settles-row l back; sides = λ v r s. settled-sides l back s }

      pub walk_more : {w₂ : List ℕ} {r : ℕ} → PreparedRow mode code w end b many w₂ r → Walk mode code w₀ end blocks w₂ (i - 1) r
      walk_more d = record { at = b; pass = passed l back d.settled d.linked; ahead = sym found.before; few = omega (arith, k.few) }

  pub walk_over : i ≤ 0 → Pass mode code w₀ end w 0 many
  walk_over h = let z : i ≡ 0 = omega arith in pass-down l 0 k.at k.pass (omega arith) (λ x g h. no_start w₀ k.at (sym k.ahead ∙ rw z (starts_none w₀ (length code) 0)) x h)
