-- Document 02, "No. 8": which steps of a log are in the map, said with no follower in it; and that the follower walks these and stops at the first other.
-- Assumes nothing.
use Prim.Native.Nat.{ℕ, zero, suc, ◌+◌, ◌≤◌, ◌<◌}
use native.Mathlib.Omega.{arith}
use native.Mathlib.Nat.{add-zero}
use mathlib.Core.Path.{◌≡◌, refl, sym, ap, subst, ◌∙◌}
use mathlib.Core.Logic.{◌⊎◌, inl, inr}
use mathlib.Core.Bool.{◌&&◌}
use mathlib.Core.List.{List, [], ◌∷◌, ◌++◌}
use mathlib.Core.Option.{Option, none, some}
use lib.Dec.{eqb, leb, ltb}
use lib.ListN.{length, take}
use borrow.Author.Tests.{eqb-true, eqb-false, eq-eqb, leb-true, ltb-true, ltb-false, le-leb}
use Rattle.spec.specs.Lists.{if, mem}
use Rattle.spec.specs.Search.{sides, dests}
use Rattle.spec.specs.Ending.{Final}
use Rattle.spec.specs.Entries.{Map}
use Rattle.spec.specs.Follow.{starts_at, outgoing, starting, Stand, outside, inside, Move, not_in_map, stays_in, begins, takes, beginning, taking, size_at, move, stands, Counts, counted, Followed, onward, follow_from}
use Rattle.laws.proofs.Branch.{both}
use Rattle.laws.proofs.Members.{In, here, there, and_both, and-true, mem-in, in_mem}
use Rattle.theorems.proofs.ReaderPlaces.{never}
use Rattle.theorems.proofs.DistinctOnes.{in-distinct, distinct-in}

-- ---- the meaning

-- From where we stand, a step to q is in the map, and what it does. The log begins at 0, with a block; inside a block the next instruction follows,
-- up to the block's end; behind the end comes a destination of the block at which a block of the map starts; nothing follows past the code's end.
pub data InMap (m : Map) (code : List ℕ) : Stand → ℕ → Move → Type 0 where
  first_step : {f : Final} {q : ℕ} → q ≡ 0 → In f m.blocks → starts_at f ≡ q → InMap m code outside q (begins f)
  next_instruction : {f : Final} {pc q : ℕ} → pc < length code → (pc ≡ f.block.end → ⊥) → q ≡ pc + size_at code pc → q ≤ f.block.end
      → InMap m code (inside f pc) q (stays_in f)
  by_an_edge : {f g : Final} {pc q : ℕ} → pc < length code → pc ≡ f.block.end → In q (sides f.block.kind ++ dests f.entries) → In g m.blocks → starts_at g ≡ q
      → InMap m code (inside f pc) q (takes f g)

abbrev pub NotInMap : Map → List ℕ → Stand → ℕ → Type 0
NotInMap m code at q = (v : Move) → InMap m code at q v → ⊥

-- the moves of a log up to its end, or to the first step that is not in the map
pub data Walked (m : Map) (code : List ℕ) : Stand → List ℕ → List Move → Type 0 where
  log_ends : {at : Stand} → Walked m code at [] []
  map_ends : {at : Stand} {q : ℕ} {log : List ℕ} → NotInMap m code at q → Walked m code at (q ∷ log) []
  walks_on : {at : Stand} {q : ℕ} {log : List ℕ} {v : Move} {vs : List Move} → InMap m code at q v → Walked m code (stands v q) log vs → Walked m code at (q ∷ log) (v ∷ vs)

-- ---- the block that starts at an address

data StartsAt (a : ℕ) (fs : List Final) : Option Final → Type 0 where
  one_does : {f : Final} → In f fs → starts_at f ≡ a → StartsAt a fs (some f)
  none_does : ((f : Final) → In f fs → starts_at f ≡ a → ⊥) → StartsAt a fs none

starting-is : (a : ℕ) (fs : List Final) → StartsAt a fs (starting a fs)
unfolding starting
starting-is a [] = none_does (λ f i e. elim i [ ])
starting-is a (f ∷ fs) =
    both (StartsAt a (f ∷ fs)) (eqb a (starts_at f)) (λ on. one_does here (sym (eqb-true _ _ on))) (λ off. further (eqb-false _ _ off) (starting-is a fs))
  where
    further : {o : Option Final} → (a ≡ starts_at f → ⊥) → StartsAt a fs o → StartsAt a (f ∷ fs) o
    further n (one_does i e) = one_does (there i) e
    further n (none_does h) = none_does (λ g i e. other g i e)
      where
        other : (g : Final) → In g (f ∷ fs) → starts_at g ≡ a → ⊥
        other g here e = n (sym e)
        other g (there i) e = h g i e

-- ---- a walk's moves, and their counting

abbrev kept_on : ℕ → Move → (Stand → List Move) → List Move
kept_on q not_in_map on = []
kept_on q (stays_in f) on = stays_in f ∷ on (inside f q)
kept_on q (begins f) on = begins f ∷ on (inside f q)
kept_on q (takes f g) on = takes f g ∷ on (inside g q)

-- counted one after the other
abbrev pub tallied : List Move → List Counts → List Counts
tallied [] cs = cs
tallied (v ∷ vs) cs = tallied vs (counted v cs)

-- ---- a step does what it is to do, and is refused if it is not in the map

module _ (m : Map) (code : List ℕ) where
  -- a block of the map starts there
  abbrev Lands : ℕ → Type 0
  Lands q = (g : Final) × In g m.blocks × (starts_at g ≡ q)

  begins-there : {q : ℕ} {v : Move} → InMap m code outside q v → (q ≡ 0) × Lands q
  begins-there (first_step {f} z i e) = (z, (f, i, e))

  abbrev Goes : Final → ℕ → ℕ → Type 0
  Goes f pc q = (pc ≡ f.block.end → ⊥) × (q ≡ pc + size_at code pc) × (q ≤ f.block.end)

  abbrev Takes : Final → ℕ → ℕ → Type 0
  Takes f pc q = (pc ≡ f.block.end) × In q (outgoing f) × Lands q

  goes-there : {f : Final} {pc q : ℕ} {v : Move} → InMap m code (inside f pc) q v → (pc < length code) × (Goes f pc q ⊎ Takes f pc q)
  goes-there (next_instruction l n e h) = (l, inl (n, e, h))
  goes-there (by_an_edge {g} l n o i e) = (l, inr (n, distinct-in _ _ o, (g, i, e)))

  pub data Moves (at : Stand) (q : ℕ) : Move → Type 0 where
    is-in : {v : Move} → InMap m code at q v → Moves at q v
    is-not : NotInMap m code at q → Moves at q not_in_map

  lands : {q : ℕ} {o : Option Final} → StartsAt q m.blocks o → (F : Option Final → Type 0) → ((g : Final) → In g m.blocks → starts_at g ≡ q → F (some g)) → ((Lands q → ⊥) → F none) → F o
  lands (one_does {f} i e) F yes-so not_so = yes-so f i e
  lands (none_does h) F yes-so not_so = not_so (λ l. h l.0 l.1 l.2)

  moves-outside : (q : ℕ) → Moves outside q (if (eqb q 0) (beginning (starting 0 m.blocks)) not_in_map)
  moves-outside q =
      both (Moves outside q) (eqb q 0)
      (λ on. let z : q ≡ 0 = eqb-true q 0 on in
      lands (starting-is 0 m.blocks) (λ (o : Option Final). Moves outside q (beginning o)) (λ g i e. is-in (first_step z i (e ∙ sym z)))
      (λ n. is-not (λ v k. let b = begins-there k in n (subst Lands z b.1))))
      (λ off. is-not (λ v k. eqb-false q 0 off (begins-there k).0))

  module _ (f : Final) (pc q : ℕ) where
    no-goes : {A : Type 0} → Goes f pc q ⊎ Takes f pc q → (Goes f pc q → A) → (Takes f pc q → A) → A
    no-goes (inl g) x y = x g
    no-goes (inr t) x y = y t

    moves-inside : Moves (inside f pc) q (move m code (inside f pc) q)
    unfolding move
    moves-inside =
        both M (ltb pc (length code))
        (λ l. let low : pc < length code = ltb-true _ _ l in
        both M (eqb pc f.block.end)
        (λ at-end. let e : pc ≡ f.block.end = eqb-true _ _ at-end in
        both M (mem q (outgoing f))
        (λ out. lands (starting-is q m.blocks) (λ (o : Option Final). M (taking f o))
        (λ g i s. is-in (by_an_edge low e (in-distinct q _ (mem-in q (outgoing f) out)) i s))
        (λ n. is-not (λ v k. no-goes (goes-there k).1 (λ g. g.0 e) (λ t. n t.2))))
        (λ off. is-not (λ v k. no-goes (goes-there k).1 (λ g. g.0 e) (λ t. never (let z = in_mem q t.1 in cc)))))
        (λ before-end. let n = eqb-false pc f.block.end before-end in
        both M (eqb q (pc + size_at code pc) && leb q f.block.end)
        (λ on. let b = and_both (eqb q (pc + size_at code pc)) _ on in is-in (next_instruction low n (eqb-true _ _ b.0) (leb-true _ _ b.1)))
        (λ off. is-not (λ v k. no-goes (goes-there k).1
        (λ g. never (let z = and-true _ _ (eq-eqb q (pc + size_at code pc) g.1) (le-leb q f.block.end g.2) in cc)) (λ t. n t.0)))))
        (λ off. is-not (λ v k. let h : length code ≤ pc = ltb-false _ _ off in let l : pc < length code = (goes-there k).0 in omega arith))
      where
        M : Move → Type 0
        M = Moves (inside f pc) q

  pub moves_so : (at : Stand) (q : ℕ) → Moves at q (move m code at q)
  unfolding move
  moves_so outside q = moves-outside q
  moves_so (inside f pc) q = moves-inside f pc q

  -- ---- the follower's walk

  unfoldable pub moves : Stand → List ℕ → List Move
  moves at [] = []
  moves at (q ∷ log) = kept_on q (move m code at q) (λ (s : Stand). moves s log)

  never-off : {at : Stand} {q : ℕ} {v : Move} → InMap m code at q v → v ≡ not_in_map → ⊥
  never-off (first_step z i e) q = never (cc)
  never-off (next_instruction l n e h) q = never (cc)
  never-off (by_an_edge l n o i e) q = never (cc)

  -- The moves are those of the log up to its end, or to its first step that is not in the map.
  pub walked : (log : List ℕ) (at : Stand) → Walked m code at log (moves at log)
  unfolding moves
  walked [] at = log_ends
  walked (q ∷ log) at = by_move (move m code at q) (moves_so at q) (λ s. walked log s)
    where
      by_move : (v : Move) → Moves at q v → ((s : Stand) → Walked m code s log (moves s log)) → Walked m code at (q ∷ log) (kept_on q v (λ (s : Stand). moves s log))
      by_move not_in_map (is-in k) ih = absurd (never-off k refl)
      by_move not_in_map (is-not n) ih = map_ends n
      by_move (stays_in f) (is-in k) ih = walks_on k (ih (inside f q))
      by_move (begins f) (is-in k) ih = walks_on k (ih (inside f q))
      by_move (takes f g) (is-in k) ih = walks_on k (ih (inside g q))

  -- The follower's place is the number of these moves, and it counts each of them.
  pub follow-moves : (log : List ℕ) (at : Stand) (place : ℕ) (cs : List Counts)
      → follow_from m code log at place cs ≡ record { place = place + length (moves at log); counts = tallied (moves at log) cs }
  unfolding follow_from moves
  follow-moves [] at place cs = ap (λ (p : ℕ). record { place = p; counts = cs }) (sym (add-zero place))
  follow-moves (q ∷ log) at place cs = by_move (move m code at q) (λ s p ds. follow-moves log s p ds)
    where
      on : Stand → ℕ → List Counts → Followed
      on s p ds = follow_from m code log s p ds

      further : (vs : List Move) (ds : List Counts) → ◌≡◌ {A = Followed} (record { place = suc place + length vs; counts = tallied vs ds }) (record { place = place + suc (length vs); counts = tallied vs ds })
      further vs ds = ap (λ (p : ℕ). record { place = p; counts = tallied vs ds }) (omega arith)

      by_move : (v : Move) → ((s : Stand) (p : ℕ) (ds : List Counts) → follow_from m code log s p ds ≡ record { place = p + length (moves s log); counts = tallied (moves s log) ds })
          → onward place cs on q v ≡ record { place = place + length (kept_on q v (λ (s : Stand). moves s log)); counts = tallied (kept_on q v (λ (s : Stand). moves s log)) cs }
      by_move not_in_map ih = ap (λ (p : ℕ). record { place = p; counts = cs }) (sym (add-zero place))
      by_move (stays_in f) ih = ih (inside f q) (suc place) (counted (stays_in f) cs) ∙ further (moves (inside f q) log) (counted (stays_in f) cs)
      by_move (begins f) ih = ih (inside f q) (suc place) (counted (begins f) cs) ∙ further (moves (inside f q) log) (counted (begins f) cs)
      by_move (takes f g) ih = ih (inside g q) (suc place) (counted (takes f g) cs) ∙ further (moves (inside g q) log) (counted (takes f g) cs)

  -- ---- Every prefix of a log gives a place no later

  pub moves-prefix : (n : ℕ) (log : List ℕ) (at : Stand) → moves at (take n log) ≡ take n (moves at log)
  unfolding moves
  moves-prefix zero log at = refl
  moves-prefix (suc n) [] at = refl
  moves-prefix (suc n) (q ∷ log) at = by_move (move m code at q) (λ s. moves-prefix n log s)
    where
      by_move : (v : Move) → ((s : Stand) → moves s (take n log) ≡ take n (moves s log))
          → kept_on q v (λ (s : Stand). moves s (take n log)) ≡ take (suc n) (kept_on q v (λ (s : Stand). moves s log))
      by_move not_in_map ih = refl
      by_move (stays_in f) ih = ap {B = List Move} (λ (l : List Move). stays_in f ∷ l) (ih (inside f q))
      by_move (begins f) ih = ap {B = List Move} (λ (l : List Move). begins f ∷ l) (ih (inside f q))
      by_move (takes f g) ih = ap {B = List Move} (λ (l : List Move). takes f g ∷ l) (ih (inside g q))
