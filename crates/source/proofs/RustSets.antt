-- Document 02, No. 13, of the Rust: the sets that resolver.rs and mod.rs take from reachable.rs are the search's and pruning's. The search that keeps its set as
-- resolver.rs does, whole or in batches, is the search: "Maps, records and energy do not change." Assumes nothing.
use Prim.Native.Nat.{ℕ, zero, suc, ◌≤◌}
use native.Mathlib.Omega.{arith}
use native.Mathlib.Nat.{le_refl}
use mathlib.Core.Path.{◌≡◌, refl, sym, ap, subst, ◌∙◌}
use mathlib.Core.Bool.{Bool, true, false, not}
use mathlib.Core.Option.{Option, some}
use mathlib.Core.List.{List, [], ◌∷◌, ◌++◌, append-nil}
use lib.Dec.{eqb, ltb}
use lib.ListN.{length, drop}
use lib.Seq.{drop-append_seam}
use Rattle.spec.specs.Lists.{if, mem, last_of}
use Rattle.spec.specs.Opcodes.{Rules}
use Rattle.spec.specs.Walk.{Ins, instructions}
use Rattle.spec.specs.Blocks.{Kind, terminate, jump, jumpi, dynamic_jump, dynamic_jumpi, Block, starts, blocks}
use Rattle.spec.specs.Reach.{Edge, closure}
use Rattle.spec.specs.Search.{Node, nodes, edges, takers, direct, Rec, is_nowhere, dests, St, begin, round, reached_by, rounds, search}
use Rattle.spec.specs.Ending.{Final, all_are, merged, ended, entries_of, finals, followed, final_edges}
use Rattle.spec.specs.Answer.{prepared}
use Rattle.laws.proofs.Branch.{both, and_then}
use Rattle.laws.proofs.Members.{In, in-keep, in_map}
use Rattle.laws.proofs.Lists.{Rising}
use Rattle.theorems.proofs.Each.{each_in}
use Rattle.theorems.proofs.Counts.{Lawful}
use Rattle.theorems.proofs.Cutting.{starts-rise}
use Rattle.theorems.proofs.Replay.{search-replays}
use Rattle.theorems.proofs.Panics.{has_last}
use Rattle.theorems.proofs.Growth.{Grows, grows}
use Rattle.theorems.proofs.Carried.{carry-round}
use Rattle.theorems.proofs.Answered.{finals-at, final-starts}
use Rattle.theorems.proofs.Batches.{◌≈◌, batched, batched-join}
use Rattle.theorems.proofs.BatchedSearch.{round_same}
use Rattle.source.proofs.Extending.{pops, extend-each, joined}
use Rattle.source.proofs.AnyOrder.{held, targets_of, round-leaves}
use Rattle.source.proofs.Reaching.{last?, Pathed, get-reachable-nodes, entries_of-all, Reaches, getting}

-- ---- pruning

last-there : (path : List ℕ) → (b : ℕ) × (rest : List ℕ) × (path ≡ b ∷ rest) → last? path ≡ some (last_of path)
last-there path h = rw h.2 refl

-- an entry is a record
merged-entry : (b : Block) (es : List Rec) (ts : List ℕ) {r : Rec} → In r (merged b es ts).entries → In r es
merged-entry b es [] i = i
merged-entry b es (t ∷ ts) {r} i = both (λ (f : Final). In r f.entries → In r es) (all_are t ts) (λ _ j. elim j [ ]) (λ _ j. j) i

ended-entry : (b : Block) (es : List Rec) (k : Kind) {r : Rec} → In r (ended b es k).entries → In r es
ended-entry b es (terminate success) i = elim i [ ]
ended-entry b es (jump t) i = elim i [ ]
ended-entry b es (jumpi t f) i = elim i [ ]
ended-entry b es dynamic_jump i = (in-keep (λ (r : Rec). not (is_nowhere r.to)) es (merged-entry b _ (dests es) i)).1
ended-entry b es (dynamic_jumpi f) i = i

module _ (rules : Rules) (ok : Lawful rules.row) (code : List ℕ) (limit : ℕ) where
  abbrev recs : List Rec
  recs = (search limit (prepared rules code)).recs

  pathed : (f : Final) → In f (finals (prepared rules code) recs) → Pathed f.entries
  unfolding prepared
  pathed f i r j =
      let m = in_map (λ (n : Node). ended n.block (entries_of n.block.start recs) n.block.kind) (prepared rules code) i in
      let k = ended-entry m.0.block (entries_of m.0.block.start recs) m.0.block.kind (subst (λ (f : Final). In r f.entries) m.2 j) in
      let h = in-keep (λ (r : Rec). eqb m.0.block.start r.start) recs k in
      last-there r.path (has_last rules code (instructions code) (blocks rules.row code (instructions code)) r (each_in (search-replays rules code (instructions code) (blocks rules.row code (instructions code)) limit) h.1).1)

  -- mod.rs, line 107: `get_reachable_nodes(&blocks, 0, None)` on the blocks that the search leaves does not panic, and gives the set by which they are pruned.
  pub pruning-set : (n k : ℕ) → suc (suc (entries_of-all (finals (prepared rules code) recs))) ≤ n → suc (suc (length (final_edges (finals (prepared rules code) recs)))) ≤ k
      → Reaches (final_edges (finals (prepared rules code) recs)) 0 (get-reachable-nodes n (finals (prepared rules code) recs) 0 k [])
  unfolding prepared
  pruning-set n k h l =
      getting (finals (prepared rules code) recs)
      (subst (Rising 0) (sym (final-starts rules code (instructions code) (blocks rules.row code (instructions code)) recs)) (starts-rise ok code)) pathed 0 n h k l

-- ---- the search's first set

-- before the first round no block has an entry
abbrev pub bare : List Node → List Final
bare ns = held ns (λ _. [])

followed-nothing : (a : ℕ) (k : Kind) → followed a k [] ≡ []
followed-nothing a (terminate success) = refl
followed-nothing a (jump t) = refl
followed-nothing a (jumpi t f) = refl
followed-nothing a dynamic_jump = refl
followed-nothing a (dynamic_jumpi f) = refl

bare-edges : (ns : List Node) → final_edges (bare ns) ≡ edges ns
bare-edges [] = refl
bare-edges (m ∷ ns) = rw (followed-nothing m.block.start m.block.kind, append-nil, bare-edges ns) refl

bare-pathed : (ns : List Node) (f : Final) → In f (bare ns) → Pathed f.entries
bare-pathed ns f i r j = let m = in_map (λ (n : Node). record { block = n.block; entries = [] }) ns i in elim (subst (λ (g : Final). In r g.entries) m.2 j) [ ]

-- resolver.rs, line 398: `get_reachable_nodes(&blocks, 0, None)` before the first round gives what is reached then.
pub first-set : (ns : List Node) → Rising 0 (finals-at (bare ns)) → (n k : ℕ) → suc (suc (entries_of-all (bare ns))) ≤ n → suc (suc (length (edges ns))) ≤ k
    → (set : List ℕ) × (get-reachable-nodes n (bare ns) 0 k [] ≡ some set) × (set ≈ reached_by ns [])
first-set ns rising n k h l =
    let r = getting (bare ns) rising (bare-pathed ns) 0 n h k (rw (bare-edges ns) l) in
    (r.set, r.is, λ a. r.same a ∙ ap (λ (es : List Edge). mem a (closure es (0 ∷ []))) (bare-edges ns))

-- ---- the rounds of resolver.rs, lines 398 to 458, with the turns as the definitions give them

-- what the round from s to t found
abbrev found_in : St → St → List ℕ
found_in s t = dests (drop (length s.recs) t.recs)

-- the blocks after it, with their entries
abbrev pub after : List Node → St → List Final
after ns t = held ns (λ (m : Node). entries_of m.block.start t.recs)

module _ (cut : List ℕ → List (List ℕ)) (limit : ℕ) (ns : List Node) where
  -- line 457, in the lists that `cut` makes of the round's targets, with pops enough
  abbrev pub grown-by : List ℕ → St → St → Option (List ℕ)
  grown-by got s t = extend-each (pops (after ns t) (targets_of t.recs)) (after ns t) (targets_of t.recs) got (cut (found_in s t))

  unfoldable pub rust-rounds : ℕ → List ℕ → St → Option St
  rust-rounds zero got s = some s
  rust-rounds (suc n) got s =
      let t = round limit (direct ns) got (takers ns) s in
      let more = and_then (grown-by got s t) (λ set. rust-rounds n set t) in
      let this = if (eqb (length t.recs) (length s.recs)) (some t) more in
      if (ltb s.energy limit) this (some s)

  unfoldable pub rust-search : Option St
  rust-search =
      and_then (get-reachable-nodes (suc (suc (entries_of-all (bare ns)))) (bare ns) 0 (suc (suc (length (edges ns)))) []) (λ set. rust-rounds 128 set begin)

if_some : {A : Type 0} (b : Bool) (x y : A) → if b (some x) (some y) ≡ some (if b x y)
unfolding if
if_some true x y = refl
if_some false x y = refl

module _ (cut : List ℕ → List (List ℕ)) (whole : (xs : List ℕ) → joined (cut xs) ≡ xs) (limit : ℕ) (ns : List Node)
    (rising : (entries : Node → List Rec) → Rising 0 (finals-at (held ns entries))) where
  set_grown : (got : List ℕ) (recs new now : List Rec) → recs ++ new ≡ now → (entries : Node → List Rec) (targets : List ℕ) → targets ≡ dests new → got ≈ reached_by ns recs
      → (set : List ℕ)
      × (extend-each (pops (held ns entries) (targets_of now)) (held ns entries) (targets_of now) got (cut targets) ≡ some set)
      × (set ≈ reached_by ns now)
  set_grown got recs new now e entries targets q h =
      subst
      (λ (now : List Rec). (set : List ℕ)
      × (extend-each (pops (held ns entries) (targets_of now)) (held ns entries) (targets_of now) got (cut targets) ≡ some set)
      × (set ≈ reached_by ns now)) e
      (round-leaves entries ns recs new got h (rising entries) _ (cut targets) (λ b i. le_refl (pops (held ns entries) (targets_of (recs ++ new)) b)) (whole targets ∙ q))

  grown-is : (got : List ℕ) (s t : St) → got ≈ reached_by ns s.recs → Grows s t
      → (set : List ℕ) × (grown-by cut limit ns got s t ≡ some set) × (set ≈ reached_by ns t.recs)
  grown-is got s t h g =
      set_grown got s.recs g.new t.recs (sym g.is) (λ (m : Node). entries_of m.block.start t.recs) (found_in s t)
      (ap dests (ap (drop (length s.recs)) g.is ∙ drop-append_seam s.recs g.new)) h

  rounds-same : (n : ℕ) (got : List ℕ) (s : St) → got ≈ reached_by ns s.recs → rust-rounds cut limit ns n got s ≡ some (rounds n limit ns s)
  unfolding rust-rounds rounds
  rounds-same zero got s h = refl
  rounds-same (suc n) got s h =
      let t = round limit (direct ns) (reached_by ns s.recs) (takers ns) s in
      let g = grown-is got s t h (carry-round Grows grows limit (direct ns) (reached_by ns s.recs) (takers ns) s) in
      let next : and_then (grown-by cut limit ns got s t) (λ set. rust-rounds cut limit ns n set t) ≡ some (rounds n limit ns t)
      = ap (λ (o : Option (List ℕ)). and_then o (λ set. rust-rounds cut limit ns n set t)) g.1 ∙ rounds-same n g.0 t g.2 in
      rw (round_same limit (direct ns) got (reached_by ns s.recs) h (takers ns) s)
      (ap (λ (o : Option St). if (ltb s.energy limit) (if (eqb (length t.recs) (length s.recs)) (some t) o) (some s)) next
      ∙ ap (λ (o : Option St). if (ltb s.energy limit) o (some s)) (if_some (eqb (length t.recs) (length s.recs)) t (rounds n limit ns t))
      ∙ if_some (ltb s.energy limit) _ s)

  -- However a round's targets are cut into lists, no call panics, and the search ends in its own state: records, energy and needs.
  pub rust-search-same : rust-search cut limit ns ≡ some (search limit ns)
  unfolding rust-search search
  rust-search-same =
      let f = first-set ns (rising (λ _. [])) (suc (suc (entries_of-all (bare ns)))) (suc (suc (length (edges ns)))) (omega arith) (omega arith) in
      ap (λ (o : Option (List ℕ)). and_then o (λ set. rust-rounds cut limit ns 128 set begin)) f.1 ∙ rounds-same 128 f.0 begin f.2

-- ---- of a code

held-starts : (rules : Rules) (code : List ℕ) (is : List Ins) (bs : List Block) (entries : Node → List Rec) → finals-at (held (nodes rules code is bs) entries) ≡ starts bs
held-starts rules code is [] entries = refl
held-starts rules code is (b ∷ bs) entries = ap {B = List ℕ} (λ (xs : List ℕ). b.start ∷ xs) (held-starts rules code is bs entries)

held-rising : (rules : Rules) → Lawful rules.row → (code : List ℕ) (entries : Node → List Rec) → Rising 0 (finals-at (held (prepared rules code) entries))
unfolding prepared
held-rising rules ok code entries = subst (Rising 0) (sym (held-starts rules code (instructions code) (blocks rules.row code (instructions code)) entries)) (starts-rise ok code)

-- As resolver.rs hands them over, all at once,
pub at_once : (rules : Rules) → Lawful rules.row → (limit : ℕ) (code : List ℕ) → rust-search (λ xs. xs ∷ []) limit (prepared rules code) ≡ some (search limit (prepared rules code))
at_once rules ok limit code = rust-search-same (λ xs. xs ∷ []) append-nil limit (prepared rules code) (held-rising rules ok code)

-- and in batches of 64.
pub in-batches : (rules : Rules) → Lawful rules.row → (limit : ℕ) (code : List ℕ) → rust-search (λ xs. batched (length xs) xs) limit (prepared rules code) ≡ some (search limit (prepared rules code))
in-batches rules ok limit code = rust-search-same (λ xs. batched (length xs) xs) (λ xs. batched-join (length xs) xs) limit (prepared rules code) (held-rising rules ok code)
