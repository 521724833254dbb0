-- reachable.rs, on the Rust's blocks, is what Queue, Extending and Reaching have of it on the definitions'. Assumes nothing.
use Prim.Native.Nat.{ℕ, zero, suc, ◌+◌, ◌≤◌}
use native.Mathlib.Omega.{arith}
use mathlib.Core.Path.{◌≡◌, refl, ap, ap₂, ◌∙◌}
use mathlib.Core.Bool.{Bool, true, false, not}
use mathlib.Core.Option.{Option, none, some}
use mathlib.Core.List.{List, [], ◌∷◌, ◌++◌, map}
use lib.Dec.{eqb}
use lib.ListN.{length, length-map, length-append}
use Rattle.spec.specs.Lists.{if, mem, last_of, total}
use Rattle.spec.specs.Blocks.{Kind, terminate, jump, jumpi, dynamic_jump, dynamic_jumpi}
use Rattle.spec.specs.Reach.{edge}
use Rattle.spec.specs.Search.{sides, Found, nowhere, found, Rec, dest}
use Rattle.spec.specs.Ending.{Final, followed, final_edges}
use Rattle.laws.proofs.Branch.{both, if-true, if-false, and_then}
use Rattle.laws.proofs.Members.{In, here, there}
use Rattle.theorems.proofs.Batches.{added}
use Rattle.source.proofs.Queue.{pushed, block_at, of-block, while-pops}
use Rattle.source.proofs.Extending.{turns, Targets, Extended, visits, pushes-of, pops, extend-reachable-nodes, extend-each}
use Rattle.source.proofs.Reaching.{last?, follows, follows-each, sees, entries_of-all}
use Rattle.source.specs.Collections.{match_option, unwrap_or, get, set_insert}
use Rattle.source.specs.Types.{RustBlock}
use Rattle.source.specs.Shown.{to_of, jump_of, type_of, view}
use Rattle.source.specs.Reachable.{Witnesses, push_each, while_queue, filter_entry, filter_entries, pushes_of_type, most_pushes, all_pushes, set_extend, visit, passes, get_reachable_nodes, sides_of_type, extend_reachable_nodes}
use Rattle.source.proofs.Reaching as Theirs

-- ---- the loop

module _ (rust : List ℕ → ℕ → RustBlock → Option (List ℕ)) (theirs : List ℕ → ℕ → Final → Option (List ℕ)) (same : (set : List ℕ) (a : ℕ) (f : Final) → rust set a (view f).1 ≡ theirs set a f) where
  at_same : (set : List ℕ) (a : ℕ) (fs : List Final) → match_option (get eqb a (map view fs)) (rust set a) (some []) ≡ of-block (theirs set a) (block_at a fs)
  at_same set a [] = refl
  at_same set a (f ∷ fs) = split (eqb a f.block.start) refl (at_same set a fs)
    where
      split : (b : Bool) → eqb a f.block.start ≡ b → match_option (get eqb a (map view fs)) (rust set a) (some []) ≡ of-block (theirs set a) (block_at a fs)
          → match_option (get eqb a (view f ∷ map view fs)) (rust set a) (some []) ≡ of-block (theirs set a) (block_at a (f ∷ fs))
      split true e ih = rw (if-true (eqb a f.block.start) _ _ e, if-true (eqb a f.block.start) _ _ e) (same set a f)
      split false e ih = rw (if-false (eqb a f.block.start) _ _ e, if-false (eqb a f.block.start) _ _ e) ih

  pub while-same : (fs : List Final) (n : ℕ) (queue set : List ℕ) → while_queue (map view fs) rust n queue set ≡ while-pops fs theirs n queue set
  unfolding while_queue while-pops
  while-same fs zero queue set = refl
  while-same fs (suc n) [] set = refl
  while-same fs (suc n) (a ∷ queue) set =
      λ i. if (mem a set) (while-same fs n queue set i) (and_then (at_same (a ∷ set) a fs i) (λ ts. while-same fs n (push_each ts queue) (a ∷ set) i))

-- ---- what a block pushes

entry-same : (global visited path : List ℕ) (to : Found) → filter_entry global visited path (to_of to) ≡ follows global visited path to
entry-same global visited [] nowhere = refl
entry-same global visited (x ∷ path) nowhere = refl
entry-same global visited [] (found t s) = refl
entry-same global visited (x ∷ path) (found t s) = refl

entries-same : (global visited : List ℕ) (es : List Rec) → filter_entries global visited (map jump_of es) ≡ follows-each global visited es
entries-same global visited [] = refl
entries-same global visited (x ∷ es) =
    λ i. and_then (entry-same global visited x.path x.to i) (λ ts. and_then (entries-same global visited es i) (λ us. some (ts ++ us)))

type-same : (global visited : List ℕ) (es : List Rec) (k : Kind) → pushes_of_type global visited (type_of k es) ≡ sees global visited es k
type-same global visited es (terminate success) = refl
type-same global visited es (jump t) = refl
type-same global visited es (jumpi t f) = refl
type-same global visited es dynamic_jump = entries-same global visited es
type-same global visited es (dynamic_jumpi f) = refl

extended-same : (more set : List ℕ) → set_extend more set ≡ added more set
extended-same [] set = refl
extended-same (a ∷ more) set = extended-same more (set_insert a set)

sides-same : (k : Kind) (es : List Rec) → sides_of_type (type_of k es) ≡ turns k
sides-same (terminate success) es = refl
sides-same (jump t) es = refl
sides-same (jumpi t f) es = refl
sides-same dynamic_jump es = refl
sides-same (dynamic_jumpi f) es = refl

-- ---- `extend_reachable_nodes`

module _ (wt : Witnesses) (targets : Targets) (told : (w : ℕ) → unwrap_or [] (get eqb w wt) ≡ targets w) where
  pushes_same : (fs : List Final)
      → total (λ (e : ℕ × RustBlock). length (sides_of_type e.1.btype) + length (unwrap_or [] (get eqb e.0 wt))) (map view fs) ≡ pushes-of fs targets
  pushes_same [] = refl
  pushes_same (f ∷ fs) =
      λ i. length (sides-same f.block.kind f.entries i) + length (told f.block.start i) + pushes_same fs i

  -- The same call, with the same pops.
  pub call-same : (fs : List Final) (got seeds : List ℕ)
      → extend_reachable_nodes (map view fs) got wt seeds ≡ and_then {B = List ℕ × Bool} (extend-reachable-nodes (pops fs targets seeds) fs targets got seeds) (λ x. some (x.reachable, x.grew))
  call-same fs got seeds =
      ap (λ (o : Option (List ℕ)). and_then o (λ set. some (set, not (eqb (length set) (length got)))))
      (ap (λ (n : ℕ). while_queue (map view fs) rust (suc (length seeds + n)) (push_each seeds []) got) (pushes_same fs)
      ∙ while-same rust theirs same fs (pops fs targets seeds) (pushed seeds []) got)
      ∙ told-again (while-pops fs theirs (pops fs targets seeds) (pushed seeds []) got)
    where
      rust : List ℕ → ℕ → RustBlock → Option (List ℕ)
      rust = λ set current bl. some (sides_of_type bl.btype ++ unwrap_or [] (get eqb current wt))

      theirs : List ℕ → ℕ → Final → Option (List ℕ)
      theirs = λ set current f. some (visits targets set current f)

      same : (set : List ℕ) (a : ℕ) (f : Final) → rust set a (view f).1 ≡ theirs set a f
      same set a f = λ i. some (sides-same f.block.kind f.entries i ++ told a i)

      told-again : (o : Option (List ℕ)) → and_then {B = List ℕ × Bool} o (λ set. some (set, not (eqb (length set) (length got))))
          ≡ and_then {B = List ℕ × Bool} (and_then o (λ set. some (record { reachable = set; grew = not (eqb (length set) (length got)) }))) (λ (x : Extended). some (x.reachable, x.grew))
      told-again none = refl
      told-again (some set) = refl

  -- one call is one list of seeds
  pub extend_same : (fs : List Final) (got seeds set : List ℕ) → extend-each (pops fs targets) fs targets got (seeds ∷ []) ≡ some set
      → extend_reachable_nodes (map view fs) got wt seeds ≡ some (set, not (eqb (length set) (length got)))
  extend_same fs got seeds set e = call-same fs got seeds ∙ ended (while-pops fs (λ set current f. some (visits targets set current f)) (pops fs targets seeds) (pushed seeds []) got) e
    where
      ended : (o : Option (List ℕ)) → and_then (and_then o (λ set. some (record { reachable = set; grew = not (eqb (length set) (length got)) }))) (λ (r : Extended). some r.reachable) ≡ some set
          → and_then {B = List ℕ × Bool} (and_then o (λ set. some (record { reachable = set; grew = not (eqb (length set) (length got)) }))) (λ (x : Extended). some (x.reachable, x.grew)) ≡ some (set, not (eqb (length set) (length got)))
      ended none q = cc
      ended (some x) q = ap (λ (o : Option (List ℕ)). and_then o (λ set. some (set, not (eqb (length set) (length got))))) q

-- ---- `get_reachable_nodes`

module _ (fs : List Final) (from : ℕ) where
  visit-same : (global : List ℕ) → visit (map view fs) from global ≡ Theirs.visit (suc (suc (all_pushes (map view fs)))) fs from global
  visit-same global =
      while-same (λ visited current bl. pushes_of_type global visited bl.btype) (λ visited current f. sees global visited f.entries f.block.kind)
      (λ set a f. type-same global set f.entries f.block.kind) fs (suc (suc (all_pushes (map view fs)))) (from ∷ []) []

  passes_same : (k : ℕ) (global reachable : List ℕ) → passes (map view fs) from k global reachable ≡ Theirs.passes (suc (suc (all_pushes (map view fs)))) fs from k global reachable
  unfolding passes Theirs.passes
  passes_same zero global reachable = refl
  passes_same (suc k) global reachable =
      λ i. and_then (visit-same global i) (λ visited.
      if (eqb (length reachable) (length (extended-same visited reachable i))) (some (extended-same visited reachable i))
      (passes_same k (extended-same visited global i) (extended-same visited reachable i) i))

  -- The same passes, with the same pops.
  pub get-same : get_reachable_nodes (map view fs) from none ≡ Theirs.get-reachable-nodes (suc (suc (all_pushes (map view fs)))) fs from (suc (suc (all_pushes (map view fs)))) []
  get-same = passes_same (suc (suc (all_pushes (map view fs)))) [] []

-- ---- so many are enough

-- only dynamic blocks have entries
abbrev pub Plain : Kind → List Rec → Type 0
Plain (terminate success) es = es ≡ []
Plain (jump t) es = es ≡ []
Plain (jumpi t f) es = es ≡ []
Plain dynamic_jump es = Unit {0}
Plain (dynamic_jumpi f) es = Unit {0}

most-same : (k : Kind) (es : List Rec) → Plain k es → most_pushes (type_of k es) ≡ length (turns k) + length es
most-same (terminate success) es e = rw e refl
most-same (jump t) es e = rw e refl
most-same (jumpi t f) es e = rw e refl
most-same dynamic_jump es e = omega (arith, length-map es jump_of)
most-same (dynamic_jumpi f) es e = omega (arith, length-map es jump_of)

pub all_same : (fs : List Final) → ((f : Final) → In f fs → Plain f.block.kind f.entries) → all_pushes (map view fs) ≡ entries_of-all fs
all_same [] h = refl
all_same (f ∷ fs) h = ap₂ ◌+◌ (most-same f.block.kind f.entries (h f here)) (all_same fs (λ g i. h g (there i)))

pub few-sides : (k : Kind) → length (sides k) ≤ length (turns k)
few-sides (terminate success) = omega arith
few-sides (jump t) = omega arith
few-sides (jumpi t f) = both (λ (l : List ℕ). length l ≤ 2) (eqb t f) (λ _. omega arith) (λ _. omega arith)
few-sides dynamic_jump = omega arith
few-sides (dynamic_jumpi f) = omega arith

few-dest : (to : Found) → length (dest to) ≤ 1
few-dest nowhere = omega arith
few-dest (found t s) = omega arith

few-followed : (a : ℕ) (k : Kind) (es : List Rec) → length (followed a k es) ≤ length es
few-followed a (terminate success) es = omega arith
few-followed a (jump t) es = omega arith
few-followed a (jumpi t f) es = omega arith
few-followed a dynamic_jump [] = omega arith
few-followed a dynamic_jump (x ∷ es) =
    let ih = few-followed a dynamic_jump es in
    omega (arith, length-append (map (edge a (last_of x.path)) (dest x.to)) (followed a dynamic_jump es), length-map (dest x.to) (edge a (last_of x.path)), few-dest x.to)
few-followed a (dynamic_jumpi f) es = omega arith

pub few-edges : (fs : List Final) → length (final_edges fs) ≤ entries_of-all fs
few-edges [] = omega arith
few-edges (f ∷ fs) =
    let a = f.block.start in
    let own = map (edge a a) (sides f.block.kind) in
    let more = followed a f.block.kind f.entries in
    omega (arith, few-edges fs, length-append (own ++ more) (final_edges fs), length-append own more, length-map (sides f.block.kind) (edge a a), few-sides f.block.kind, few-followed a f.block.kind f.entries)
