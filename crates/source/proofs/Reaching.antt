-- A step of Visiting: the transcription's `get_reachable_nodes` on the definitions' blocks. It ends, without a panic where no path is empty, and gives the set that
-- document 01 reaches: pruning's, and with no entries yet the search's first. Assumes nothing.
use Prim.Native.Nat.{ℕ, zero, suc, ◌+◌, ◌≤◌}
use native.Mathlib.Omega.{arith}
use mathlib.Core.Path.{◌≡◌, refl, sym, ap, subst, ◌∙◌}
use mathlib.Core.Logic.{◌⊎◌, inl, inr}
use mathlib.Core.Bool.{Bool, true, false, ◌||◌}
use mathlib.Core.Option.{Option, none, some}
use mathlib.Core.List.{List, [], ◌∷◌, ◌++◌, map}
use lib.Dec.{eqb}
use lib.ListN.{length, length-append, length-map}
use borrow.Author.Tests.{eqb-true, eqb-false}
use Rattle.spec.specs.Lists.{if, mem, last_of, keep, total}
use Rattle.spec.specs.Blocks.{Kind, terminate, jump, jumpi, dynamic_jump, dynamic_jumpi}
use Rattle.spec.specs.Reach.{Edge, edge, closure}
use Rattle.spec.specs.Search.{sides, Found, nowhere, found, Rec, dest, dests}
use Rattle.spec.specs.Ending.{Final, followed, final_edges}
use Rattle.laws.proofs.Branch.{both, if-true, if-false, and_then}
use Rattle.laws.proofs.Members.{In, here, there, same_test, mem-in, in_mem, or_right, or_cases, in-only, in_left, in_right, in-cases, in-keep, keep-in, length-keep, in-gather, gather-in, in_map, map-in}
use Rattle.laws.proofs.Lists.{Rising}
use Rattle.theorems.proofs.Answered.{finals-at}
use Rattle.theorems.proofs.Reached.{Reached, seed, along, closure-sound, closure-complete}
use Rattle.theorems.proofs.Batches.{◌≈◌, added, added-reached, mem-added}
use Rattle.source.proofs.Queue.{first-or, block_at, block-there, from_block, pushed_at, Entered, Ended, left-all, while-pops, while-ends}
use Rattle.source.proofs.Extending.{turns, turn-side, side-turn}

-- ---- the function

-- `dj.path.last()`
abbrev pub last? : List ℕ → Option ℕ
last? [] = none
last? (x ∷ xs) = some (last_of (x ∷ xs))

-- lines 40 to 45, of one entry: without destination its path is not looked at
abbrev pub follows : List ℕ → List ℕ → List ℕ → Found → Option (List ℕ)
follows global visited path nowhere = some []
follows global visited path (found t s) = and_then (last? path) (λ p. some (if (mem p visited || mem p global) (t ∷ []) []))

abbrev pub follows-each : List ℕ → List ℕ → List Rec → Option (List ℕ)
follows-each global visited [] = some []
follows-each global visited (r ∷ rs) =
    and_then (follows global visited r.path r.to) (λ ts. and_then (follows-each global visited rs) (λ us. some (ts ++ us)))

-- lines 30 to 52: the match on the block's type
abbrev pub sees : List ℕ → List ℕ → List Rec → Kind → Option (List ℕ)
sees global visited es (terminate success) = some []
sees global visited es (jump t) = some (t ∷ [])
sees global visited es (jumpi t f) = some (t ∷ f ∷ [])
sees global visited es dynamic_jump = follows-each global visited es
sees global visited es (dynamic_jumpi f) = some (f ∷ [])

module _ (n : ℕ) (blocks : List Final) (from : ℕ) where
  -- lines 16 to 53: what one pass visits, in at most n pops
  abbrev pub visit : List ℕ → Option (List ℕ)
  visit global = while-pops blocks (λ visited current f. sees global visited f.entries f.block.kind) n (from ∷ []) []

  -- lines 14 to 59, at most k times
  unfoldable pub passes : ℕ → List ℕ → List ℕ → Option (List ℕ)
  passes zero global reachable = none
  passes (suc k) global reachable =
      and_then (visit global) (λ visited.
      let more = added visited reachable in
      let again = passes k (added visited global) more in
      if (eqb (length reachable) (length more)) (some more) again)

  abbrev pub get-reachable-nodes : ℕ → List ℕ → Option (List ℕ)
  get-reachable-nodes k initial = passes k initial []

-- ---- what a block pushes

abbrev passed : List ℕ → List ℕ → Rec → Bool
passed global visited r = mem (last_of r.path) visited || mem (last_of r.path) global

-- the destinations of the entries that pass
abbrev goals : List ℕ → List ℕ → List Rec → Kind → List ℕ
goals global visited es (terminate success) = []
goals global visited es (jump t) = []
goals global visited es (jumpi t f) = []
goals global visited es dynamic_jump = dests (keep (passed global visited) es)
goals global visited es (dynamic_jumpi f) = []

abbrev next : List ℕ → List ℕ → ℕ → Final → List ℕ
next global visited a f = turns f.block.kind ++ goals global visited f.entries f.block.kind

-- `dj.path.last().unwrap()` finds a block
abbrev pub Pathed : List Rec → Type 0
Pathed es = (r : Rec) → In r es → last? r.path ≡ some (last_of r.path)

module _ (global visited : List ℕ) where
  follows_is : (r : Rec) (to : Found) → last? r.path ≡ some (last_of r.path) → follows global visited r.path to ≡ some (if (passed global visited r) (dest to) [])
  follows_is r nowhere e = both (λ (l : List ℕ). some [] ≡ some l) (passed global visited r) (λ _. refl) (λ _. refl)
  follows_is r (found t s) e = rw e refl

  each-is : (es : List Rec) → Pathed es → follows-each global visited es ≡ some (dests (keep (passed global visited) es))
  each-is [] h = refl
  each-is (r ∷ rs) h =
      rw (follows_is r r.to (h r here), each-is rs (λ q i. h q (there i)))
      (both (λ (l : List Rec). some (if (passed global visited r) (dest r.to) [] ++ dests (keep (passed global visited) rs)) ≡ some (dests l)) (passed global visited r)
      (λ on. ap (λ (l : List ℕ). some (l ++ dests (keep (passed global visited) rs))) (if-true _ _ _ on))
      (λ off. ap (λ (l : List ℕ). some (l ++ dests (keep (passed global visited) rs))) (if-false _ _ _ off)))

  sees-is : (es : List Rec) (k : Kind) → Pathed es → sees global visited es k ≡ some (turns k ++ goals global visited es k)
  sees-is es (terminate success) h = refl
  sees-is es (jump t) h = refl
  sees-is es (jumpi t f) h = refl
  sees-is es dynamic_jump h = each-is es h
  sees-is es (dynamic_jumpi f) h = refl

  few-dests : (es : List Rec) → length (dests es) ≤ length es
  few-dests [] = omega arith
  few-dests (r ∷ rs) = let ih = few-dests rs in one r.to ih
    where
      one : (to : Found) → length (dests rs) ≤ length rs → length (dest to ++ dests rs) ≤ suc (length rs)
      one nowhere h = omega arith
      one (found t s) h = omega arith

  few-goals : (es : List Rec) (k : Kind) → length (goals global visited es k) ≤ length es
  few-goals es (terminate success) = omega arith
  few-goals es (jump t) = omega arith
  few-goals es (jumpi t f) = omega arith
  few-goals es dynamic_jump = omega (arith, few-dests (keep (passed global visited) es), length-keep (passed global visited) es)
  few-goals es (dynamic_jumpi f) = omega arith

-- ---- the edges that it follows

abbrev block-edges : Final → List Edge
block-edges f = map (edge f.block.start f.block.start) (sides f.block.kind) ++ followed f.block.start f.block.kind f.entries

abbrev entry-edges : ℕ → Rec → List Edge
entry-edges a r = map (edge a (last_of r.path)) (dest r.to)

-- what is pushed at a lies along an edge whose witness has been visited, in this pass or before
record Step (es : List Edge) (global visited : List ℕ) (a t : ℕ) : Type 0 where
  witness : ℕ
  is_edge : In (edge a witness t) es
  live : (mem witness visited ≡ true) ⊎ (mem witness global ≡ true)

module _ (global visited : List ℕ) where
  goal-step : (a : ℕ) (k : Kind) (es : List Rec) {t : ℕ} → In t (goals global visited es k) → Step (followed a k es) global visited a t
  goal-step a (terminate success) es i = elim i [ ]
  goal-step a (jump u) es i = elim i [ ]
  goal-step a (jumpi u f) es i = elim i [ ]
  goal-step a dynamic_jump es i =
      let g = in-gather (λ (r : Rec). dest r.to) (keep (passed global visited) es) i in
      let p = last_of g.0.path in
      let k = in-keep (passed global visited) es g.1 in
      record { witness = p; is_edge = gather-in (entry-edges a) k.1 (map-in (edge a p) g.2); live = or_cases (mem p visited) (mem p global) k.0 }
  goal-step a (dynamic_jumpi f) es i = elim i [ ]

  block-step : (a : ℕ) → mem a visited ≡ true → (f : Final) {t : ℕ} → a ≡ f.block.start → In t (next global visited a f) → Step (block-edges f) global visited a t
  block-step a m f {t} e i = subst (λ (b : ℕ). Step (map (edge b b) (sides kind) ++ followed b kind f.entries) global visited a t) e (split (in-cases (turns kind) i))
    where
      kind : Kind
      kind = f.block.kind

      split : In t (turns kind) ⊎ In t (goals global visited f.entries kind) → Step (map (edge a a) (sides kind) ++ followed a kind f.entries) global visited a t
      split (inl j) = record { witness = a; is_edge = in_left (map-in (edge a a) (turn-side kind j)) (followed a kind f.entries); live = inl m }
      split (inr j) =
          let s = goal-step a kind f.entries j in record { witness = s.witness; is_edge = in_right (map (edge a a) (sides kind)) s.is_edge; live = s.live }

  step : (a : ℕ) → mem a visited ≡ true → {t : ℕ} (fs : List Final) → In t (pushed_at fs (next global) visited a) → Step (final_edges fs) global visited a t
  step a m [] i = elim i [ ]
  step a m {t} (f ∷ fs) i =
      both (λ (o : Option Final). In t (from_block (next global visited a) o) → Step (final_edges (f ∷ fs)) global visited a t) (eqb a f.block.start)
      (λ on j.
      let s = block-step a m f (eqb-true _ _ on) j in record { witness = s.witness; is_edge = in_left s.is_edge (final_edges fs); live = s.live })
      (λ _ j. let s = step a m fs j in record { witness = s.witness; is_edge = in_right (block-edges f) s.is_edge; live = s.live }) i

  -- an edge whose witness was visited in a pass before leads to what is pushed at its place
  abbrev Back : List Final → Edge → Type 0
  Back fs e = mem e.witness global ≡ true → In e.to (pushed_at fs (next global) visited e.place)

  goal-back : (a : ℕ) (k : Kind) (es : List Rec) (e : Edge) → In e (followed a k es) → (e.place ≡ a) × (mem e.witness global ≡ true → In e.to (goals global visited es k))
  goal-back a (terminate success) es e i = elim i [ ]
  goal-back a (jump u) es e i = elim i [ ]
  goal-back a (jumpi u f) es e i = elim i [ ]
  goal-back a dynamic_jump es e i =
      let g = in-gather (entry-edges a) es i in
      let p = last_of g.0.path in
      let m = in_map (edge a p) (dest g.0.to) g.2 in (
        ap (λ (d : Edge). d.place) m.2,
        λ on. subst (λ (d : Edge). In d.to (goals global visited es dynamic_jump)) (sym m.2)
            (gather-in (λ (r : Rec). dest r.to) (keep-in (passed global visited) (or_right (mem p visited) _ (subst (λ (d : Edge). mem d.witness global ≡ true) m.2 on)) g.1) m.1),
      )
  goal-back a (dynamic_jumpi f) es e i = elim i [ ]

  back : (fs : List Final) {lo : ℕ} → Rising lo (finals-at fs) → (e : Edge) → In e (final_edges fs) → Back fs e
  back fs r e i on =
      let g = in-gather block-edges fs i in
      found_at g.0 (block-there fs r g.1) (in-cases (map (edge g.0.block.start g.0.block.start) (sides g.0.block.kind)) g.2)
    where
      at : (f : Final) → block_at f.block.start fs ≡ some f → e.place ≡ f.block.start → In e.to (next global visited f.block.start f)
          → In e.to (pushed_at fs (next global) visited e.place)
      at f q s j =
          subst (λ (a : ℕ). In e.to (pushed_at fs (next global) visited a)) (sym s)
          (subst (λ (o : Option Final). In e.to (from_block (next global visited f.block.start) o)) (sym q) j)

      found_at : (f : Final) → block_at f.block.start fs ≡ some f
          → In e (map (edge f.block.start f.block.start) (sides f.block.kind)) ⊎ In e (followed f.block.start f.block.kind f.entries)
          → In e.to (pushed_at fs (next global) visited e.place)
      found_at f q (inl j) =
          let m = in_map (edge f.block.start f.block.start) (sides f.block.kind) j in
          at f q (ap (λ (d : Edge). d.place) m.2)
          (in_left (side-turn f.block.kind (subst (λ (d : Edge). In d.to (sides f.block.kind)) (sym m.2) m.1)) (goals global visited f.entries f.block.kind))
      found_at f q (inr j) =
          let b = goal-back f.block.start f.block.kind f.entries e j in
          at f q b.0 (in_right (turns f.block.kind) (b.1 on))

-- ---- a set that grows, and what is not in it yet

added-longer : (xs got : List ℕ) → length got ≤ length (added xs got)
added-longer [] got = omega arith
added-longer (x ∷ xs) got =
    both (λ (l : List ℕ). length got ≤ length (added xs l)) (mem x got) (λ _. added-longer xs got) (λ _. omega (arith, added-longer xs (x ∷ got)))

-- all are in it, or one is not and it grows
abbrev Grew : List ℕ → List ℕ → Type 0
Grew xs got = ((a : ℕ) → In a xs → mem a got ≡ true) ⊎ ((a : ℕ) × In a xs × (mem a got ≡ false) × (suc (length got) ≤ length (added xs got)))

grew-one : (x : ℕ) (xs got : List ℕ) → mem x got ≡ true → Grew xs got → Grew (x ∷ xs) got
grew-one x xs got on (inl h) = inl (λ a i. first-or (λ b. mem b got ≡ true) on h i)
grew-one x xs got on (inr g) = inr (g.0, there g.1, g.2, subst (λ (l : List ℕ). suc (length got) ≤ length (added xs l)) (sym (if-true _ _ _ on)) g.3)

grew : (xs got : List ℕ) → Grew xs got
grew [] got = inl (λ a i. elim i [ ])
grew (x ∷ xs) got = split (mem x got) refl (grew xs got)
  where
    split : (b : Bool) → mem x got ≡ b → Grew xs got → Grew (x ∷ xs) got
    split true on g = grew-one x xs got on g
    split false off g =
        inr (x, here, off, subst (λ (l : List ℕ). suc (length got) ≤ length (added xs l)) (sym (if-false _ _ _ off)) (added-longer xs (x ∷ got)))

-- how many of these are not in it
abbrev lacks : List ℕ → List ℕ → ℕ
lacks got = total (λ (p : ℕ). if (mem p got) 0 1)

lacks-few : (got ps : List ℕ) → lacks got ps ≤ length ps
lacks-few got [] = omega arith
lacks-few got (p ∷ ps) =
    let ih = lacks-few got ps in both (λ (k : ℕ). k + lacks got ps ≤ suc (length ps)) (mem p got) (λ _. omega arith) (λ _. omega arith)

module _ (got more : List ℕ) (within : (a : ℕ) → mem a got ≡ true → mem a more ≡ true) where
  lacks-one : (b c : Bool) → (b ≡ true → c ≡ true) → if c 0 1 ≤ if b 0 1
  unfolding if
  lacks-one true c h = rw (h refl) (omega arith)
  lacks-one false true h = omega arith
  lacks-one false false h = omega arith

  lacks-falls : (ps : List ℕ) → lacks more ps ≤ lacks got ps
  lacks-falls [] = omega arith
  lacks-falls (p ∷ ps) = omega (arith, lacks-one (mem p got) (mem p more) (within p), lacks-falls ps)

  lacks_less : (a : ℕ) → mem a got ≡ false → mem a more ≡ true → {ps : List ℕ} → In a ps → suc (lacks more ps) ≤ lacks got ps
  lacks_less a off on (here {xs}) = omega (arith, if-false {A = ℕ} (mem a got) 0 1 off, if-true {A = ℕ} (mem a more) 0 1 on, lacks-falls xs)
  lacks_less a off on (there {y} {xs} i) = omega (arith, lacks-one (mem y got) (mem y more) (within y), lacks_less a off on i)

-- ---- what it gives

-- so many can be pushed
abbrev pub entries_of-all : List Final → ℕ
entries_of-all fs = total (λ (f : Final). length (turns f.block.kind) + length f.entries) fs

-- it ends, with no panic, and gives what is reached
pub record Reaches (es : List Edge) (from : ℕ) (o : Option (List ℕ)) : Type 0 where
  pub set : List ℕ
  pub is : o ≡ some set
  pub same : set ≈ closure es (from ∷ [])

module _ (fs : List Final) (rising : Rising 0 (finals-at fs)) (pathed : (f : Final) → In f fs → Pathed f.entries) (from n : ℕ)
    (enough : suc (suc (entries_of-all fs)) ≤ n) where
  abbrev all : List Edge
  all = final_edges fs

  abbrev R : ℕ → Type 0
  R = Reached all (from ∷ [])

  abbrev places : List ℕ
  places = from ∷ map (λ (e : Edge). e.to) all

  -- reached, and the place `from` or where an edge leads
  abbrev P : ℕ → Type 0
  P a = R a × In a places

  -- one pass, with the set of the passes before
  pass : (got : List ℕ) → ((a : ℕ) → mem a got ≡ true → R a) → Ended fs (next got) P (from ∷ []) [] (visit n fs from got)
  pass got good =
      while-ends fs _ (next got) (λ f. length (turns f.block.kind) + length f.entries) P
      (λ visited a f i e. sees-is got visited f.entries f.block.kind (pathed f i))
      (λ visited a f i e. omega (arith, length-append (turns f.block.kind) (goals got visited f.entries f.block.kind), few-goals got visited f.entries f.block.kind))
      (λ visited a p m t i.
      let s = step got visited a m fs i in (
        along (edge a s.witness t) s.is_edge (p a m).0 (live visited p s.live),
        there (map-in (λ (e : Edge). e.to) s.is_edge),
      ))
      n (from ∷ []) []
      (omega (arith, left-all (λ f. length (turns f.block.kind) + length f.entries) [] fs))
    where
      live : (visited : List ℕ) {w : ℕ} → ((b : ℕ) → mem b visited ≡ true → P b) → (mem w visited ≡ true) ⊎ (mem w got ≡ true) → R w
      live visited p (inl m) = (p _ m).0
      live visited p (inr m) = good _ m

  -- the set after a pass: what it had and what the pass visited
  module _ (got : List ℕ) (good : (a : ℕ) → mem a got ≡ true → R a) where
    e : Ended fs (next got) P (from ∷ []) [] (visit n fs from got)
    e = pass got good

    no-queue : (a : ℕ) → In a (from ∷ []) → P a
    no-queue a i = subst P (sym (in-only i)) (seed (in_mem from (here {xs = []})), here)

    nothing : (a : ℕ) → mem a [] ≡ true → P a
    nothing a m = let z : ◌≡◌ {A = ℕ} 0 1 = cc in absurd (omega arith)

    visited-good : (a : ℕ) → mem a e.set ≡ true → P a
    visited-good = e.only no-queue nothing

    more : List ℕ
    more = added e.set got

    more-good : (a : ℕ) → mem a more ≡ true → R a
    unfolding more
    more-good a m = split (or_cases (mem a e.set) (mem a got) (sym (mem-added a e.set got) ∙ m))
      where
        split : (mem a e.set ≡ true) ⊎ (mem a got ≡ true) → R a
        split (inl k) = (visited-good a k).0
        split (inr k) = good a k

    -- if all that was visited was known, all that is reached was visited
    complete : ((a : ℕ) → In a e.set → mem a got ≡ true) → {a : ℕ} → R a → mem a e.set ≡ true
    complete known (seed m) = e.queued _ (mem-in _ (from ∷ []) m)
    complete known (along d i p w) = split (e.entered d.place (complete known p)) (known d.witness (mem-in _ e.set (complete known w)))
      where
        split : (mem d.place [] ≡ true) ⊎ Entered fs (next got) d.place e.set → mem d.witness got ≡ true → mem d.to e.set ≡ true
        split (inl m) on = cc
        split (inr h) on = h.goes d.to (back got h.had fs rising d i on)

    -- the last pass
    last : ((a : ℕ) → In a e.set → mem a got ≡ true) → more ≈ closure all (from ∷ [])
    unfolding more
    last known a =
        same_test (λ h. closure-complete all (from ∷ []) a (more-good a h))
        (λ h. mem-added a e.set got ∙ ap (λ (b : Bool). b || mem a got) (complete known (closure-sound all (from ∷ []) a h)))

    -- or one is new
    fewer : (a : ℕ) → In a e.set → mem a got ≡ false → suc (lacks more places) ≤ lacks got places
    unfolding more
    fewer a i off =
        let m = in_mem a i in
        lacks_less got more (λ b h. mem-added b e.set got ∙ or_right (mem b e.set) (mem b got) h) a off (mem-added a e.set got ∙ ap (λ (b : Bool). b || mem a got) m) (visited-good a m).1

  on-equal : (got : List ℕ) (good : (a : ℕ) → mem a got ≡ true → R a) → length got ≡ length (more got good) → Grew (e got good).set got
      → Reaches all from (some (more got good))
  unfolding more
  on-equal got good q (inl known) = record { set = more got good; is = refl; same = last got good known }
  on-equal got good q (inr g) = absurd (omega (arith, g.3))

  on-longer : (got : List ℕ) (good : (a : ℕ) → mem a got ≡ true → R a) → (length got ≡ length (more got good) → ⊥) → Grew (e got good).set got
      → suc (lacks (more got good) places) ≤ lacks got places
  unfolding more
  on-longer got good q (inl known) = absurd (q (ap length (sym (added-reached (e got good).set got known))))
  on-longer got good q (inr g) = fewer got good g.0 g.1 g.2

  passes-end : (k : ℕ) (got : List ℕ) → ((a : ℕ) → mem a got ≡ true → R a) → suc (lacks got places) ≤ k → Reaches all from (passes n fs from k got got)
  unfolding passes more
  passes-end zero got good h = absurd (omega arith)
  passes-end (suc k) got good h =
      rw (e got good).is
      (both (Reaches all from) (eqb (length got) (length (more got good))) (λ on. on-equal got good (eqb-true _ _ on) (grew (e got good).set got))
      (λ off.
      let less = on-longer got good (eqb-false _ _ off) (grew (e got good).set got) in
      passes-end k (more got good) (more-good got good) (omega (arith, less))))

  -- `get_reachable_nodes` gives what is reached, once each edge has had a pass to lead on in.
  pub getting : (k : ℕ) → suc (suc (length all)) ≤ k → Reaches all from (get-reachable-nodes n fs from k [])
  getting k h =
      passes-end k [] (λ a m. let z : ◌≡◌ {A = ℕ} 0 1 = cc in absurd (omega arith)) (omega (arith, lacks-few [] places, length-map all (λ (e : Edge). e.to)))
