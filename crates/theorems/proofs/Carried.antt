-- What each of the search's own steps keeps, the search keeps. Assumes nothing.
use Prim.Native.Nat.{ℕ, zero, suc, ◌≤◌}
use mathlib.Core.Path.{◌≡◌, refl}
use mathlib.Core.List.{List, [], ◌∷◌}
use borrow.Author.Tests.{ltb-false}
use Rattle.spec.specs.Stacks.{Sym, before, constant, jumpdest, other, Stack}
use Rattle.spec.specs.Search.{Node, Taker, Parent, Rec, St, need, spend, remember, forget, add, Room, P, S, T, R, Q, Met, Turn, Level, record_nowhere, record_found, arrive, follow, tries, level, turn, round, rounds}
use Rattle.laws.proofs.Branch.{both}

-- ---- two relations of a state and a later one: `Rel` across the work on parents, and `In` within it, where the parent's unit was counted and is not past
-- the limit

pub record Steps (limit : ℕ) (Rel In : St → St → Type 0) : Type 0 where
  pub keeps : (s : St) → Rel s s
  pub joins : (s t u : St) → Rel s t → Rel t u → Rel s u
  pub needs : (r : Room) (u : ℕ) (s : St) → Rel s (need r u s)
  pub forgets : (s : St) → Rel s (forget s)
  pub stops : (s : St) → Rel s (spend s)
  pub counts : (s t : St) → suc s.energy ≤ limit → In (spend s) t → Rel s t
  pub in_level : (s t : St) → Rel s t → In s t
  pub in_needs : (r : Room) (u : ℕ) (s t : St) → In (need r u s) t → In s t
  pub in_remembers : (m : Met) (s t : St) → In (remember m s) t → In s t
  pub in_adds : (r : Rec) (s : St) → r.energy ≡ s.energy → In s (add r s)

module _ (limit : ℕ) (Rel In : St → St → Type 0) (k : Steps limit Rel In) where
  in-still : (s : St) → In s s
  in-still s = k.in_level s s (k.keeps s)

  pub step-nowhere : (c : Turn) (path : List ℕ) (s : St) → In s (record_nowhere c path s)
  unfolding record_nowhere
  step-nowhere c path s = both (In s) _ (λ _. in-still s) (λ _. k.in_needs R _ _ _ (k.in_needs Q _ _ _ (k.in_adds _ _ refl)))

  pub step-found : (c : Turn) (t : ℕ) (new : Stack) (path : List ℕ) (s : St) → In s (record_found c t new path s)
  unfolding record_found
  step-found c t new path s =
      both (In s) _ (λ _. in-still s) (λ _. k.in_needs R _ _ _ (k.in_needs Q _ _ _ (k.in_needs S _ _ _ (k.in_adds _ _ refl))))

  module _ (c : Turn) (deeper : Level → St → St) (h : (l : Level) (s : St) → Rel s (deeper l s)) where
    pub step-arrive : (path : List ℕ) (new : Stack) (x : Sym) (s : St) → In s (arrive c deeper path new x s)
    unfolding arrive
    step-arrive path new (before n) s = k.in_level _ _ (h _ s)
    step-arrive path new (constant v) s = step-nowhere c path s
    step-arrive path new (jumpdest t) s = step-found c t new path s
    step-arrive path new (other v) s = step-nowhere c path s

    pub step-follow : (l : Level) (p : Parent) (path : List ℕ) (s : St) → In s (follow c deeper l p path s)
    unfolding follow
    step-follow l p path s =
        both (In s) _ (λ _. k.in_needs S _ _ _ (in-still _))
        (λ _. k.in_needs S _ _ _ (k.in_needs T _ _ _ (k.in_remembers _ _ _ (step-arrive path _ _ _))))

  pub step-tries : (go : Parent → List ℕ → St → St) → ((p : Parent) (path : List ℕ) (s : St) → In s (go p path s))
      → (path : List ℕ) (ps : List Parent) (s : St) → Rel s (tries limit go path ps s)
  unfolding tries
  step-tries go h path [] s = k.keeps s
  step-tries go h path (p ∷ ps) s =
      both (Rel s) _ (λ _. k.stops s)
      (λ on. k.joins _ _ _ (k.counts s _ (ltb-false _ _ on) (both (In (spend s)) _ (λ _. in-still _) (λ _. k.in_needs P _ _ _ (h p _ _))))
      (step-tries go h path ps _))

  pub step-level : (c : Turn) (w : ℕ) (l : Level) (s : St) → Rel s (level limit c w l s)
  unfolding level
  step-level c zero l s = step-tries _ (λ p. step-nowhere c) _ _ s
  step-level c (suc w) l s = step-tries _ (step-follow c _ (step-level c w) l) _ _ s

  pub step-turn : (c : Turn) (n : ℕ) (s : St) → Rel s (turn limit c n s)
  unfolding turn
  step-turn c n s = k.joins _ _ _ (k.needs P 1 s) (k.joins _ _ _ (k.needs S _ _) (k.joins _ _ _ (step-level c 255 _ _) (k.forgets _)))

  pub step-round : (stored : List Parent) (reached : List ℕ) (ks : List Taker) (s : St) → Rel s (round limit stored reached ks s)
  unfolding round
  step-round stored reached [] s = k.keeps s
  step-round stored reached (t ∷ ts) s =
      k.joins _ _ _ (both (Rel s) _ (λ _. step-turn _ _ s) (λ _. k.keeps s)) (step-round stored reached ts _)

  pub step-rounds : (n : ℕ) (rs : List Node) (s : St) → Rel s (rounds n limit rs s)
  unfolding rounds
  step-rounds zero rs s = k.keeps s
  step-rounds (suc n) rs s =
      both (Rel s) _
      (λ _. k.joins _ _ _ (step-round _ _ _ s) (both (Rel _) _ (λ _. k.keeps _) (λ _. step-rounds n rs _)))
      (λ _. k.keeps s)

-- ---- one relation for both, at any limit

pub record Carried (Rel : St → St → Type 0) : Type 0 where
  pub keeps : (s : St) → Rel s s
  pub joins : (s t u : St) → Rel s t → Rel t u → Rel s u
  pub spends : (s : St) → Rel s (spend s)
  pub needs : (r : Room) (u : ℕ) (s : St) → Rel s (need r u s)
  pub remembers : (m : Met) (s : St) → Rel s (remember m s)
  pub forgets : (s : St) → Rel s (forget s)
  pub adds : (r : Rec) (s : St) → Rel s (add r s)

module _ (Rel : St → St → Type 0) (k : Carried Rel) where
  steps : (limit : ℕ) → Steps limit Rel Rel
  steps limit = record {
    keeps = k.keeps;
    joins = k.joins;
    needs = k.needs;
    forgets = k.forgets;
    stops = k.spends;
    counts = λ s t _ h. k.joins _ _ _ (k.spends s) h;
    in_level = λ s t h. h;
    in_needs = λ r u s t h. k.joins _ _ _ (k.needs r u s) h;
    in_remembers = λ m s t h. k.joins _ _ _ (k.remembers m s) h;
    in_adds = λ r s _. k.adds r s;
  }

  pub carry-nowhere : (c : Turn) (path : List ℕ) (s : St) → Rel s (record_nowhere c path s)
  carry-nowhere = step-nowhere 0 Rel Rel (steps 0)

  pub carry-found : (c : Turn) (t : ℕ) (new : Stack) (path : List ℕ) (s : St) → Rel s (record_found c t new path s)
  carry-found = step-found 0 Rel Rel (steps 0)

  module _ (c : Turn) (deeper : Level → St → St) (h : (l : Level) (s : St) → Rel s (deeper l s)) where
    pub carry-arrive : (path : List ℕ) (new : Stack) (x : Sym) (s : St) → Rel s (arrive c deeper path new x s)
    carry-arrive = step-arrive 0 Rel Rel (steps 0) c deeper h

    pub carry-follow : (l : Level) (p : Parent) (path : List ℕ) (s : St) → Rel s (follow c deeper l p path s)
    carry-follow = step-follow 0 Rel Rel (steps 0) c deeper h

  pub carry-tries : (limit : ℕ) (go : Parent → List ℕ → St → St) → ((p : Parent) (path : List ℕ) (s : St) → Rel s (go p path s))
      → (path : List ℕ) (ps : List Parent) (s : St) → Rel s (tries limit go path ps s)
  carry-tries limit = step-tries limit Rel Rel (steps limit)

  pub carry-level : (limit : ℕ) (c : Turn) (w : ℕ) (l : Level) (s : St) → Rel s (level limit c w l s)
  carry-level limit = step-level limit Rel Rel (steps limit)

  pub carry-turn : (limit : ℕ) (c : Turn) (n : ℕ) (s : St) → Rel s (turn limit c n s)
  carry-turn limit = step-turn limit Rel Rel (steps limit)

  pub carry-round : (limit : ℕ) (stored : List Parent) (reached : List ℕ) (ks : List Taker) (s : St) → Rel s (round limit stored reached ks s)
  carry-round limit = step-round limit Rel Rel (steps limit)

  pub carry-rounds : (n limit : ℕ) (rs : List Node) (s : St) → Rel s (rounds n limit rs s)
  carry-rounds n limit = step-rounds limit Rel Rel (steps limit) n
