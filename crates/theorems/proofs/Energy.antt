-- Document 01: "Energy used is the number of units counted in step 1; a unit that ends a level counts, so the total may pass the limit, by at most 256."
-- Assumes nothing.
use Prim.Native.Nat.{ℕ, zero, suc, ◌+◌, ◌≤◌}
use native.Mathlib.Omega.{arith}
use native.Mathlib.Nat.{le_of_lt}
use mathlib.Core.Path.{◌≡◌}
use mathlib.Core.Bool.{◌&&◌}
use mathlib.Core.List.{List, [], ◌∷◌}
use lib.Dec.{ltb}
use borrow.Author.Tests.{ltb-true, ltb-false}
use Rattle.spec.specs.Lists.{mem}
use Rattle.spec.specs.Stacks.{Sym, before, constant, jumpdest, other, Stack}
use Rattle.spec.specs.Search.{Node, Taker, Parent, St, begin, Turn, Level, record_nowhere, record_found, arrive, follow, loops, tries, level, turn, round, rounds, search}
use Rattle.laws.proofs.Branch.{both, and_right}
use Rattle.theorems.proofs.Records.{Trace, nothing, then, opens, counts, records, asks, remembers, forgets, Rounds, no_more, a_round, search-rounds}

-- ---- the units counted

-- the units counted in step 1, each for a parent of a level
abbrev pub counted : {ns : List Node} {reached : List ℕ} {s t : St} → Trace ns reached s t → ℕ
counted nothing = 0
counted (then a b) = counted a + counted b
counted (opens o) = 0
counted (counts o h) = 1
counted (records h n) = 0
counted (asks r u) = 0
counted (remembers m) = 0
counted forgets = 0

-- and in all rounds
abbrev pub counted-in : {ns : List Node} {n : ℕ} {s t : St} → Rounds ns n s t → ℕ
counted-in no_more = 0
counted-in (a_round a b) = counted a + counted-in b

energy-trace : {ns : List Node} {reached : List ℕ} {s t : St} (a : Trace ns reached s t) → t.energy ≡ s.energy + counted a
energy-trace nothing = omega arith
energy-trace (then a b) = omega (arith, energy-trace a, energy-trace b)
energy-trace (opens o) = omega arith
energy-trace (counts o h) = omega arith
energy-trace (records h n) = omega arith
energy-trace (asks r u) = omega arith
energy-trace (remembers m) = omega arith
energy-trace forgets = omega arith

energy-rounds : {ns : List Node} {n : ℕ} {s t : St} (a : Rounds ns n s t) → t.energy ≡ s.energy + counted-in a
energy-rounds no_more = omega arith
energy-rounds (a_round a b) = omega (arith, energy-trace a, energy-rounds b)

-- The energy is the units counted in step 1.
pub energy-is-counted : (limit : ℕ) (ns : List Node) → (search limit ns).energy ≡ counted-in (search-rounds limit ns)
energy-is-counted limit ns = omega (arith, energy-rounds (search-rounds limit ns))

-- ---- energy: a level whose number is w passes the limit by at most w + 1

abbrev Within : ℕ → St → Type 0
Within n s = s.energy ≤ n

-- what is done with a grown path leaves the energy at most w past the limit, from the limit or below
GoWithin : ℕ → ℕ → (Parent → List ℕ → St → St) → Type 0
GoWithin limit w go = (p : Parent) (path : List ℕ) (s : St) → Within limit s → Within (limit + w) (go p path s)

within-nowhere : (limit w : ℕ) (c : Turn) (path : List ℕ) (s : St) → Within limit s → Within (limit + w) (record_nowhere c path s)
unfolding record_nowhere
within-nowhere limit w c path s h = both (Within (limit + w)) _ (λ _. omega arith) (λ _. omega arith)

within-found : (limit w : ℕ) (c : Turn) (t : ℕ) (new : Stack) (path : List ℕ) (s : St) → Within limit s → Within (limit + w) (record_found c t new path s)
unfolding record_found
within-found limit w c t new path s h = both (Within (limit + w)) _ (λ _. omega arith) (λ _. omega arith)

within-arrive : (limit w : ℕ) (c : Turn) (deeper : Level → St → St) → ((l : Level) (s : St) → Within limit s → Within (limit + w) (deeper l s))
    → (path : List ℕ) (new : Stack) (x : Sym) (s : St) → Within limit s → Within (limit + w) (arrive c deeper path new x s)
unfolding arrive
within-arrive limit w c deeper h path new (before n) s e = h _ s e
within-arrive limit w c deeper h path new (constant v) s e = within-nowhere limit w c path s e
within-arrive limit w c deeper h path new (jumpdest t) s e = within-found limit w c t new path s e
within-arrive limit w c deeper h path new (other v) s e = within-nowhere limit w c path s e

within-follow : (limit w : ℕ) (c : Turn) (deeper : Level → St → St) → ((l : Level) (s : St) → Within limit s → Within (limit + w) (deeper l s))
    → (l : Level) → GoWithin limit w (follow c deeper l)
unfolding GoWithin follow
within-follow limit w c deeper h l p path s e = both (Within (limit + w)) _ (λ _. omega arith) (λ _. within-arrive limit w c deeper h path _ _ _ e)

within-tries : (limit w : ℕ) (go : Parent → List ℕ → St → St) → GoWithin limit w go
    → (path : List ℕ) (ps : List Parent) (s : St) → Within (limit + w) s → Within (limit + suc w) (tries limit go path ps s)
unfolding GoWithin tries
within-tries limit w go h path [] s e = omega arith
within-tries limit w go h path (p ∷ ps) s e =
    both (Within (limit + suc w)) _ (λ _. omega arith)
    (λ off. let e' : suc s.energy ≤ limit = ltb-false limit (suc s.energy) off in
    within-tries limit w go h path ps _ (both (Within (limit + w)) (loops p.path path) (λ _. omega arith) (λ _. h p _ _ e')))

-- from the limit or below, a level whose number is w ends at most w + 1 past the limit
pub within_level : (limit : ℕ) (c : Turn) (w : ℕ) (l : Level) (s : St) → Within limit s → Within (limit + suc w) (level limit c w l s)
unfolding level GoWithin
within_level limit c zero l s e = within-tries limit 0 _ (λ p. within-nowhere limit 0 c) _ _ s (omega arith)
within_level limit c (suc w) l s e = within-tries limit (suc w) _ (within-follow limit (suc w) c _ (within_level limit c w) l) _ _ s (omega arith)

within-round : (limit : ℕ) (stored : List Parent) (reached : List ℕ) (ks : List Taker) (s : St) → Within (limit + 256) s → Within (limit + 256) (round limit stored reached ks s)
unfolding round turn
within-round limit stored reached [] s e = e
within-round limit stored reached (k ∷ ks) s e =
    within-round limit stored reached ks _
    (both (Within (limit + 256)) (mem k.start reached && ltb s.energy limit) (λ on. within_level limit _ 255 _ _ (le_of_lt (ltb-true _ _ (and_right (mem k.start reached) _ on)))) (λ _. e))

within-rounds : (n limit : ℕ) (ns : List Node) (s : St) → Within (limit + 256) s → Within (limit + 256) (rounds n limit ns s)
unfolding rounds
within-rounds zero limit ns s e = e
within-rounds (suc n) limit ns s e =
    both (Within (limit + 256)) _
    (λ _. both (Within (limit + 256)) _ (λ _. within-round limit _ _ _ s e) (λ _. within-rounds n limit ns _ (within-round limit _ _ _ s e)))
    (λ _. e)

-- The energy stays within the limit and 256.
pub search-energy : (limit : ℕ) (ns : List Node) → (search limit ns).energy ≤ limit + 256
unfolding search
search-energy limit ns = within-rounds 128 limit ns begin (omega arith)
