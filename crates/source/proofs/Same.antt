-- The whole: the Rust's five modules, as they stand, give the definitions' map. Assumes nothing.
use Prim.Native.Nat.{ℕ, suc, ◌≤◌}
use native.Mathlib.Omega.{arith}
use mathlib.Core.Path.{◌≡◌, refl, sym, ap, subst, ◌∙◌}
use mathlib.Core.Bool.{or-false}
use mathlib.Core.Option.{Option, none, some}
use mathlib.Core.List.{List, [], ◌∷◌, map, append-nil}
use lib.Dec.{eqb}
use lib.ListN.{length, length-append, length-map}
use Rattle.spec.specs.Lists.{if, mem, keep}
use Rattle.spec.specs.Opcodes.{Row, in_mode}
use Rattle.spec.specs.Walk.{Ins, instructions}
use Rattle.spec.specs.Blocks.{Kind, terminate, jump, jumpi, dynamic_jump, dynamic_jumpi, Block, starts, blocks}
use Rattle.spec.specs.Stacks.{Stack, Ran, entry, runs, trimmed, run, own}
use Rattle.spec.specs.Reach.{edge, closure}
use Rattle.spec.specs.Search.{Node, node, nodes, takers, sides, Parent, parent, direct, edges, Rec, dests, St, begin, rounds, search}
use Rattle.spec.specs.Ending.{Final, all_are, merged, ended, entries_of, finals, final_edges, pruned}
use Rattle.spec.specs.Entries.{Map}
use Rattle.spec.specs.Rooms.{Lent}
use Rattle.spec.specs.Answer.{answered, prepared, searched, mapped, answer}
use Rattle.laws.proofs.Branch.{both, if-true, if-false, and_then}
use Rattle.laws.proofs.Members.{In, in-gather, in_map}
use Rattle.laws.proofs.Lists.{Rising}
use Rattle.theorems.proofs.Answered.{finals-at}
use Rattle.theorems.proofs.Batches.{◌≈◌}
use Rattle.theorems.proofs.Counts.{Lawful, lawful}
use Rattle.theorems.proofs.Cutting.{block-afresh, starts-rise}
use Rattle.theorems.proofs.Demand3.{gave}
use Rattle.source.proofs.Exec.{plainly}
use Rattle.source.proofs.Reaching.{entries_of-all}
use Rattle.source.proofs.RustSets.{pruning-set, bare, first-set}
use Rattle.source.specs.Collections.{unwrap_or, get}
use Rattle.source.specs.Types.{RustBlock, Blocks}
use Rattle.source.specs.Shown.{shown, view}
use Rattle.source.specs.Initial.{initial_blocks}
use Rattle.source.specs.Reachable.{all_pushes, get_reachable_nodes}
use Rattle.source.specs.Resolver.{RevIdx, default, set_reachable0, ENERGY-LIMIT, Staged, first_stage, direct_parents, for_rounds, change_each, retained, merged_type, resolve_dynamic_jumps}
use Rattle.source.specs.Mod.{control_flow_graph, rust}
use Rattle.source.proofs.Iterating.{Sized}
use Rattle.source.proofs.Mirror.{stored}
use Rattle.source.proofs.Caches.{own_of, Along, along_one, Cached}
use Rattle.source.proofs.Tables.{Sim}
use Rattle.source.proofs.Visiting.{get-same, Plain, all_same, few-sides, few-edges}
use Rattle.source.proofs.Turning.{shows, node-starts, base}
use Rattle.source.proofs.Rounding.{positions, Shows, all-rounds}
use Rattle.source.proofs.Merging.{all-merged}
use Rattle.source.proofs.Staging.{bare-blocks, Settles, settles, Filled, all-filled}
use Rattle.source.proofs.Initially.{initial-same}
use Rattle.source.proofs.Rows.{info-row, sized}

-- ---- the nodes of a code

module _ {row : ℕ → Row} (ok : Lawful row) (sized : Sized row) (code : List ℕ) where
  abbrev is : List Ins
  is = instructions code

  abbrev bs : List Block
  bs = blocks row code is

  abbrev ns : List Node
  ns = nodes (plainly row) code is bs

  initial-any : (c : List ℕ) → initial_blocks row c ≡ some (map (λ (b : Block). shown b []) (blocks row c (instructions c)))
  unfolding blocks
  initial-any [] = refl
  initial-any (b ∷ rest) = initial-same ok sized b rest

  afresh : (b : Block) → In b bs → run (plainly row) code is b.start ≡ own (plainly row) code b.start
  unfolding run
  afresh b i = ap (λ (js : List Ins). trimmed (runs (plainly row) code b.start js entry)) (block-afresh ok code i)

  owns : (n : Node) → In n ns → n.own.stack ≡ own_of row code n.block.start
  owns n i =
      let m = in_map (λ (b : Block). node b (run (plainly row) code is b.start)) bs i in
      ap (λ (x : Node). x.own.stack) m.2 ∙ ap (λ (r : Ran). r.stack) (afresh m.0 m.1) ∙ ap (λ (x : Node). own_of row code x.block.start) (sym m.2)

  starts-of : (cs : List Block) → node-starts (nodes (plainly row) code is cs) ≡ starts cs
  starts-of [] = refl
  starts-of (c ∷ cs) = ap {B = List ℕ} (λ (l : List ℕ). c.start ∷ l) (starts-of cs)

  rises : Rising 0 (node-starts ns)
  rises = subst (Rising 0) (sym (starts-of bs)) (starts-rise ok code)

  -- ---- lines 341 to 394

  r0 : RevIdx
  r0 = set_reachable0 (0 ∷ []) default

  cached0 : Cached row code r0
  unfolding r0
  cached0 = record {
    shallow = λ k v e. let z : ◌≡◌ {A = ℕ} 0 1 = cc in absurd (omega arith);
    deep = λ k v e. let z : ◌≡◌ {A = ℕ} 0 1 = cc in absurd (omega arith);
    replayed = λ k v e. let z : ◌≡◌ {A = ℕ} 0 1 = cc in absurd (omega arith);
  }

  stage : Settles ok sized code is ns [] r0 (first_stage row code (map (λ (b : Block). shown b []) bs) [] r0)
  stage = settles ok sized code is bs afresh [] r0 cached0

  parents : Filled ok sized code ns stage.idx [] (direct_parents row code (bare-blocks ns) stage.idx)
  unfolding r0
  parents =
      all-filled ok sized code ns rises owns [] stage.idx stage.beside.cached
      (λ to. ap (λ (m : List (ℕ × List (List ℕ × List Rattle.spec.specs.Stacks.Sym))). unwrap_or [] (get eqb to m)) stage.beside.parents) (λ p i. elim i [ ])

  direct-along : (p : Parent) → In p (direct ns) → Along row code p.path p.stack × (length p.path ≡ 1)
  direct-along p i =
      let g = in-gather (λ (r : Node). map (λ (t : ℕ). parent t (r.block.start ∷ []) r.own.stack) (sides r.block.kind)) ns i in
      let m = in_map (λ (t : ℕ). parent t (g.0.block.start ∷ []) g.0.own.stack) (sides g.0.block.kind) g.2 in (
        subst (λ (q : Parent). Along row code q.path q.stack) (sym m.2) (subst (Along row code (g.0.block.start ∷ [])) (sym (owns g.0 g.1)) (along_one row code g.0.block.start)),
        ap (λ (q : Parent). length q.path) m.2,
      )

  -- before the first round
  sim0 : Sim row code (base ns (0 ∷ [])) [] [] parents.idx
  unfolding r0
  sim0 =
      let f = parents.fills in
      record {
        cached = f.cached;
        table = λ to. f.table to ∙ ap (λ (ps : List Parent). map Rattle.source.proofs.Tables.entry_of (Rattle.source.proofs.Tables.at_block to ps)) (sym (append-nil (direct ns)));
        inter = λ l x y. ap (λ (m : List (ℕ × List (List Rattle.spec.specs.Stacks.Sym × List Rattle.spec.specs.Stacks.Sym))). Rattle.source.proofs.Tables.known m l (stored x) y) (f.istate ∙ stage.beside.istate);
        bad = λ p. ap (Rattle.source.specs.Resolver.path_in p) (f.badpaths ∙ stage.beside.badpaths);
        live = λ a. ap (mem a) (f.reachable0 ∙ stage.beside.reachable0) ∙ sym (or-false (mem a (0 ∷ [])));
        along = λ p i. (direct-along p (subst (In p) (append-nil (direct ns)) i)).0;
        short = λ p i. (direct-along p i).1;
      }

  -- ---- lines 396 to 458

  bare-view : (ms : List Node) → bare-blocks ms ≡ map view (bare ms)
  bare-view [] = refl
  bare-view (m ∷ ms) = ap {B = Blocks} (λ (l : Blocks). shown m.block [] ∷ l) (bare-view ms)

  bare-shows : (ms : List Node) → bare-blocks ms ≡ shows ms []
  bare-shows [] = refl
  bare-shows (m ∷ ms) = ap {B = Blocks} (λ (l : Blocks). shown m.block [] ∷ l) (bare-shows ms)

  bare-at : (ms : List Node) → finals-at (bare ms) ≡ node-starts ms
  bare-at [] = refl
  bare-at (m ∷ ms) = ap {B = List ℕ} (λ (l : List ℕ). m.block.start ∷ l) (bare-at ms)

  plain-none : (k : Kind) → Plain k []
  plain-none (terminate success) = refl
  plain-none (jump t) = refl
  plain-none (jumpi t f) = refl
  plain-none dynamic_jump = tt
  plain-none (dynamic_jumpi f) = tt

  bare-plain : (ms : List Node) (f : Final) → In f (bare ms) → Plain f.block.kind f.entries
  bare-plain ms f i =
      let m = in_map (λ (n : Node). record { block = n.block; entries = [] }) ms i in
      subst (λ (g : Final). Plain g.block.kind g.entries) (sym m.2) (plain-none m.0.block.kind)

  few-static : (ms : List Node) → length (edges ms) ≤ entries_of-all (bare ms)
  few-static [] = omega arith
  few-static (m ∷ ms) =
      let a = m.block.start in
      omega (arith, few-static ms, length-append (map (edge a a) (sides m.block.kind)) (edges ms), length-map (sides m.block.kind) (edge a a), few-sides m.block.kind)

  -- line 398
  first-reached : (set : List ℕ) × (get_reachable_nodes (bare-blocks ns) 0 none ≡ some set) × (set ≈ Rattle.spec.specs.Search.reached_by ns [])
  first-reached =
      let e = all_same (bare ns) (bare-plain ns) in
      let g = first-set ns (subst (Rising 0) (sym (bare-at ns)) rises) (suc (suc (all_pushes (map view (bare ns))))) (suc (suc (all_pushes (map view (bare ns))))) (omega arith) (omega (arith, few-static ns)) in
      (g.0, ap (λ (b : Blocks). get_reachable_nodes b 0 none) (bare-view ns) ∙ get-same (bare ns) 0 ∙ g.1, g.2)

  -- lines 401 to 458
  turned : Shows ok sized code ns rises owns (rounds 128 ENERGY-LIMIT ns begin) (for_rounds row code 128 (positions (takers ns)) first-reached.0 parents.idx (shows ns []) 0 [])
  turned = all-rounds ok sized code ns rises owns 128 first-reached.0 (0 ∷ []) begin parents.idx [] first-reached.2 refl sim0 (λ w. refl) (λ x i. elim i [ ])

  abbrev records : List Rec
  records = (rounds 128 ENERGY-LIMIT ns begin).recs

  -- `resolve_dynamic_jumps` never panics, and gives the definitions' final blocks.
  pub resolved-same : resolve_dynamic_jumps row code (map (λ (b : Block). shown b []) bs) ≡ some (map view (finals ns records))
  unfolding r0
  resolved-same =
      ap (λ (o : Option Staged). and_then o (λ s.
      and_then (direct_parents row code s.blocks s.idx) (λ r.
      and_then (get_reachable_nodes s.blocks 0 none) (λ reachable.
      and_then (for_rounds row code 128 s.stack_pos reachable r s.blocks 0 []) (λ bs.
      and_then (change_each retained s.stack_pos bs) (λ cs. change_each merged_type s.stack_pos cs)))))) stage.is-staged
      ∙ ap (λ (o : Option RevIdx). and_then o (λ r.
      and_then (get_reachable_nodes (bare-blocks ns) 0 none) (λ reachable.
      and_then (for_rounds row code 128 (positions (takers ns)) reachable r (bare-blocks ns) 0 []) (λ bs.
      and_then (change_each retained (positions (takers ns)) bs) (λ cs. change_each merged_type (positions (takers ns)) cs))))) parents.is
      ∙ ap (λ (o : Option (List ℕ)). and_then o (λ reachable.
      and_then (for_rounds row code 128 (positions (takers ns)) reachable parents.idx (bare-blocks ns) 0 []) (λ bs.
      and_then (change_each retained (positions (takers ns)) bs) (λ cs. change_each merged_type (positions (takers ns)) cs)))) first-reached.1
      ∙ ap (λ (b : Blocks). and_then (for_rounds row code 128 (positions (takers ns)) first-reached.0 parents.idx b 0 []) (λ bs.
      and_then (change_each retained (positions (takers ns)) bs) (λ cs. change_each merged_type (positions (takers ns)) cs))) (bare-shows ns)
      ∙ ap (λ (o : Option Blocks). and_then o (λ bs.
      and_then (change_each retained (positions (takers ns)) bs) (λ cs. change_each merged_type (positions (takers ns)) cs))) turned.is
      ∙ all-merged ns rises records turned.taken

  -- ---- mod.rs, lines 105 to 111

  merged-plain : (b : Block) (es : List Rec) (ts : List ℕ) → Plain (merged b es ts).block.kind (merged b es ts).entries
  merged-plain b es [] = tt
  merged-plain b es (t ∷ ts) = both (λ (f : Final). Plain f.block.kind f.entries) (all_are t ts) (λ _. refl) (λ _. tt)

  ended-plain : (b : Block) (es : List Rec) (k : Kind) → Plain (ended b es k).block.kind (ended b es k).entries
  ended-plain b es (terminate success) = refl
  ended-plain b es (jump t) = refl
  ended-plain b es (jumpi t f) = refl
  ended-plain b es dynamic_jump = merged-plain b _ (dests es)
  ended-plain b es (dynamic_jumpi f) = tt

  finals-plain : (recs : List Rec) (f : Final) → In f (finals ns recs) → Plain f.block.kind f.entries
  finals-plain recs f i =
      let m = in_map (λ (n : Node). ended n.block (entries_of n.block.start recs) n.block.kind) ns i in
      subst (λ (g : Final). Plain g.block.kind g.entries) (sym m.2) (ended-plain m.0.block (entries_of m.0.block.start recs) m.0.block.kind)

  kept_same : (set got : List ℕ) → set ≈ got → (fs : List Final) → keep (λ (e : ℕ × RustBlock). mem e.0 set) (map view fs) ≡ map view (keep (λ (f : Final). mem f.block.start got) fs)
  kept_same set got h [] = refl
  kept_same set got h (f ∷ fs) =
      (λ i. if (h f.block.start i) (view f ∷ kept_same set got h fs i) (kept_same set got h fs i))
      ∙ both (λ (l : List Final). if (mem f.block.start got) (view f ∷ map view rest) (map view rest) ≡ map view l) (mem f.block.start got) (λ on. if-true _ _ _ on) (λ off. if-false _ _ _ off)
    where
      rest : List Final
      rest = keep (λ (f : Final). mem f.block.start got) fs

  -- by any rows that are document 01's where they count
  pub graph_same : and_then (initial_blocks row code) (control_flow_graph row code) ≡ some (map view (pruned (finals (prepared (plainly row) code) (search ENERGY-LIMIT (prepared (plainly row) code)).recs)))
  unfolding prepared search
  graph_same =
      let fs = finals ns records in
      let e = all_same fs (finals-plain records) in
      let p = pruning-set (plainly row) ok code ENERGY-LIMIT (suc (suc (all_pushes (map view fs)))) (suc (suc (all_pushes (map view fs)))) (omega arith) (omega (arith, few-edges fs)) in
      ap (λ (o : Option Blocks). and_then o (control_flow_graph row code)) (initial-any code)
      ∙ ap (λ (o : Option Blocks). and_then o (λ bs. and_then (get_reachable_nodes bs 0 none) (λ reachable. some (keep (λ (e : ℕ × RustBlock). mem e.0 reachable) bs)))) resolved-same
      ∙ ap (λ (o : Option (List ℕ)). and_then o (λ reachable. some (keep (λ (e : ℕ × RustBlock). mem e.0 reachable) (map view fs)))) (get-same fs 0 ∙ p.is)
      ∙ ap some (kept_same p.set (closure (final_edges fs) (0 ∷ [])) p.same fs)

-- For every code, the Rust's modules end without a panic, and give exactly the blocks of the definitions' map at limit 500,000 in the plain mode: start, end,
-- type, entries with paths and destinations, in order.
pub rust-same : (choice : ℕ) (code : List ℕ) → rust code ≡ some (map view (mapped (in_mode 0) choice code (searched (in_mode 0) 500000 code)).blocks)
unfolding rust mapped searched
rust-same choice code =
    ap (λ (rows : ℕ → Row). and_then (initial_blocks rows code) (control_flow_graph rows code)) info-row
    ∙ graph_same lawful sized code

-- Demand 2, of every answered call at limit 500,000 in the plain mode, whatever is lent.
pub answered-rust : (l : Lent) (choice : ℕ) (code : List ℕ) (a : Map) → answer (in_mode 0) l 500000 choice code ≡ answered a → rust code ≡ some (map view a.blocks)
answered-rust l choice code a e = rust-same choice code ∙ ap (λ (m : Map). some (map view m.blocks)) (sym (gave (in_mode 0) l 500000 choice code a e).is)
