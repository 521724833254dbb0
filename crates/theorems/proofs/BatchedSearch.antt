-- Document 02, No. 13: "Then let a round hand its targets over in batches of 64. Maps, records and energy do not change." The search that keeps its reached set
-- from round to round, and grows it in batches, is the search. Assumes nothing.
use Prim.Native.Nat.{ℕ, zero, suc}
use mathlib.Core.Path.{◌≡◌, refl, sym, ap, subst, ◌∙◌}
use mathlib.Core.Bool.{Bool, ◌&&◌, ◌||◌}
use mathlib.Core.List.{List, [], ◌∷◌, ◌++◌}
use lib.Dec.{eqb, ltb}
use lib.ListN.{length, drop}
use lib.Seq.{drop-append_seam}
use Rattle.spec.specs.Lists.{if, mem, last_of, keep}
use Rattle.spec.specs.Stacks.{Sym, before, constant, jumpdest, other, Stack, read}
use Rattle.spec.specs.Reach.{closure}
use Rattle.spec.specs.Search.{Node, edges, Taker, takers, Parent, direct, Rec, dests, found_parents, St, begin, need, spend, forget, P, Level, Turn, turn_for, parents, record_nowhere, record_found, arrive, follow, tries, level, turn, round, reached_by, rounds, search}
use Rattle.theorems.proofs.Growth.{Grows, grows}
use Rattle.theorems.proofs.Carried.{carry-round}
use Rattle.theorems.proofs.Reached.{Closed}
use Rattle.theorems.proofs.Batches.{◌≈◌, extends, closure-closed, extends-closed, round-extends, batched, batched-join}

-- ---- the definition

-- what a round found, in batches
abbrev pub targets : St → St → List (List ℕ)
targets s t = let new = dests (drop (length s.recs) t.recs) in batched (length new) new

unfoldable pub batched-rounds : ℕ → ℕ → List Node → List ℕ → St → St
batched-rounds zero limit ns got s = s
batched-rounds (suc n) limit ns got s =
    let t = round limit (direct ns) got (takers ns) s in
    let more = batched-rounds n limit ns (extends (edges ns) got (targets s t)) t in
    let this = if (eqb (length t.recs) (length s.recs)) t more in
    if (ltb s.energy limit) this s

unfoldable pub batched-search : ℕ → List Node → St
batched-search limit ns = batched-rounds 128 limit ns (closure (edges ns) (0 ∷ [])) begin

-- ---- a round asks of the reached set only what is in it

keep_same : {A : Type 0} (f g : A → Bool) → ((x : A) → f x ≡ g x) → (xs : List A) → keep f xs ≡ keep g xs
keep_same f g h [] = refl
keep_same f g h (x ∷ xs) = rw (h x, keep_same f g h xs)

one_side : (b : Bool) (y : St) {x z : St} → x ≡ z → if b x y ≡ if b z y
one_side b y e = ap (λ (x : St). if b x y) e

other-side : (b : Bool) (x : St) {y z : St} → y ≡ z → if b x y ≡ if b x z
other-side b x e = ap (if b x) e

tries-same : (limit : ℕ) (go on : Parent → List ℕ → St → St) → ((p : Parent) (path : List ℕ) (s : St) → go p path s ≡ on p path s)
    → (path : List ℕ) (ps : List Parent) (s : St) → tries limit go path ps s ≡ tries limit on path ps s
unfolding tries
tries-same limit go on h path [] s = refl
tries-same limit go on h path (p ∷ ps) s =
    rw (h p (path ++ p.path) (need P (length (path ++ p.path)) (spend s)), tries-same limit go on h path ps _)

module _ (limit : ℕ) (stored : List Parent) (got more : List ℕ) (h : got ≈ more) (k : Taker) where
  abbrev c : Turn
  c = turn_for stored got k

  abbrev d : Turn
  d = turn_for stored more k

  parents-same : (b : ℕ) (s : St) → parents c b s ≡ parents d b s
  unfolding parents
  parents-same b s =
      keep_same _ _ (λ p. ap (λ (x : Bool). eqb b p.to && (x || mem (last_of p.path) (dests s.recs))) (h (last_of p.path))) (stored ++ found_parents s.recs)

  arrive_same : (deeper on : Level → St → St) → ((l : Level) (s : St) → deeper l s ≡ on l s) → (path : List ℕ) (new : Stack) (x : Sym) (s : St)
      → arrive c deeper path new x s ≡ arrive d on path new x s
  unfolding arrive record_nowhere record_found
  arrive_same deeper on e path new (before n) s = e _ s
  arrive_same deeper on e path new (jumpdest t) s = refl
  arrive_same deeper on e path new (constant v) s = refl
  arrive_same deeper on e path new (other pc) s = refl

  follow-same : (deeper on : Level → St → St) → ((l : Level) (s : St) → deeper l s ≡ on l s) → (l : Level) (p : Parent) (path : List ℕ) (s : St)
      → follow c deeper l p path s ≡ follow d on l p path s
  unfolding follow
  follow-same deeper on e l p path s = other-side _ _ (arrive_same deeper on e path _ (read p.stack l.position) _)

  level-same : (w : ℕ) (l : Level) (s : St) → level limit c w l s ≡ level limit d w l s
  unfolding level record_nowhere
  level-same zero l s = rw (parents-same (last_of l.path) s)
  level-same (suc w) l s =
      rw (parents-same (last_of l.path) s)
      (tries-same limit (follow c (level limit c w) l) (follow d (level limit d w) l) (follow-same (level limit c w) (level limit d w) (level-same w) l) l.path
      (parents d (last_of l.path) s) s)

  turn-same : (position : ℕ) (s : St) → turn limit c position s ≡ turn limit d position s
  unfolding turn
  turn-same position s = ap forget (level-same 255 _ _)

pub round_same : (limit : ℕ) (stored : List Parent) (got more : List ℕ) → got ≈ more → (ks : List Taker) (s : St)
    → round limit stored got ks s ≡ round limit stored more ks s
unfolding round
round_same limit stored got more h [] s = refl
round_same limit stored got more h (k ∷ ks) s =
    rw (h k.start, turn-same limit stored got more h k k.position s) (round_same limit stored got more h ks _)

-- ---- the search

-- the set grown by a round's targets is what is reached when the next one begins
grown : (ns : List Node) (got : List ℕ) (s t : St) → Closed (edges ns) got → got ≈ reached_by ns s.recs → Grows s t
    → extends (edges ns) got (targets s t) ≈ reached_by ns t.recs
grown ns got s t c h g =
    let new = dests (drop (length s.recs) t.recs) in
    subst (λ (recs : List Rec). extends (edges ns) got (targets s t) ≈ reached_by ns recs) (sym g.is)
    (round-extends ns s.recs g.new got c h (targets s t) (batched-join (length new) new ∙ ap dests (ap (drop (length s.recs)) g.is ∙ drop-append_seam s.recs g.new)))

batched-same : (n limit : ℕ) (ns : List Node) (got : List ℕ) (s : St) → Closed (edges ns) got → got ≈ reached_by ns s.recs
    → batched-rounds n limit ns got s ≡ rounds n limit ns s
unfolding batched-rounds rounds
batched-same zero limit ns got s c h = refl
batched-same (suc n) limit ns got s c h =
    let t = round limit (direct ns) (reached_by ns s.recs) (takers ns) s in
    let g : Grows s t = carry-round Grows grows limit (direct ns) (reached_by ns s.recs) (takers ns) s in
    let next = batched-same n limit ns (extends (edges ns) got (targets s t)) t (extends-closed (edges ns) got c (targets s t)) (grown ns got s t c h g) in
    rw (round_same limit (direct ns) got (reached_by ns s.recs) h (takers ns) s) (one_side _ _ (other-side _ _ next))

-- The records, the energy and the needs are the same.
pub batched-search-same : (limit : ℕ) (ns : List Node) → batched-search limit ns ≡ search limit ns
unfolding batched-search search
batched-search-same limit ns = batched-same 128 limit ns (closure (edges ns) (0 ∷ [])) begin (closure-closed (edges ns) (0 ∷ [])) (λ a. refl)
