-- What a search does, one thing after the other, and why: a level opens at a taker's start, or behind a parent that read Before; a unit is counted for a
-- parent of a level; a record is made of one. Each step names only what was recorded before it. This is soundness: all that is done is as the rule says,
-- and what is done of all that the rule allows is the definition's to say. Assumes nothing.
use Prim.Native.Nat.{ℕ, zero, suc, ◌+◌, ◌<◌}
use native.Mathlib.Omega.{arith}
use mathlib.Core.Path.{◌≡◌, refl, sym, ap, subst, ◌∙◌}
use mathlib.Core.Logic.{◌⊎◌, inl, inr}
use mathlib.Core.Bool.{true, ◌&&◌, ◌||◌}
use mathlib.Core.List.{List, [], ◌∷◌, ◌++◌, append_assoc, append-nil}
use lib.Dec.{eqb, ltb}
use lib.ListN.{length}
use borrow.Author.Tests.{eqb-true}
use Rattle.spec.specs.Lists.{if, mem, last_of}
use Rattle.spec.specs.Stacks.{Sym, before, constant, jumpdest, other, Stack, read, compose}
use Rattle.spec.specs.Search.{Node, Taker, takers, Parent, direct, nowhere, found, Rec, dest, dests, leads, found_parents, Room, P, S, Met, St, begin, need, spend, remember, forget, add, Turn, turn_for, Level, parents, writes, record_nowhere, record_found, arrive, follow, loops, tries, level, turn, round, reached_by, rounds, search}
use Rattle.laws.proofs.Branch.{both}
use Rattle.laws.proofs.Members.{In, here, there, and_both, or_cases, mem-left, in_left, in_right, in-cases, in-keep, gather_append}
use Rattle.theorems.proofs.Each.{Each, all_done, each_snoc}
use Rattle.theorems.proofs.Growth.{Grows, grows-refl, grows-trans}

-- ---- the rule

-- a symbol that is no destination and leads no further
pub data Lost : Sym → Type 0 where
  lost_constant : (v : ℕ) → Lost (constant v)
  lost_other : (pc : ℕ) → Lost (other pc)

-- a parent stored so far
abbrev pub Stored : List Node → List Rec → Parent → Type 0
Stored ns recs p = In p (direct ns ++ found_parents recs)

-- in a round that began with these addresses reached, after these records
module _ (ns : List Node) (reached : List ℕ) (recs : List Rec) where
  -- "A destination found counts as reached for parents at once; the rest of the reached set grows when the round ends."
  abbrev pub Live : ℕ → Type 0
  Live a = (mem a reached ≡ true) ⊎ (mem a (dests recs) ≡ true)

  -- a parent of the level: stored for its block, and its path's last block reached
  pub record Parented (l : Level) (p : Parent) : Type 0 where
    pub stored : Stored ns recs p
    pub joined : p.to ≡ last_of l.path
    pub live : Live (last_of p.path)

  -- a level that the turn of the block at `start` opens, at a weight
  pub data Opens (start : ℕ) : ℕ → Level → Type 0 where
    first-level : {k : Taker} → In k (takers ns) → k.start ≡ start → mem start reached ≡ true
        → Opens start 1 (record { path = start ∷ []; position = k.position; state = k.first })
    deeper-level : {w n : ℕ} {l : Level} {p : Parent} → Opens start w l → w < 256 → Parented l p → read p.stack l.position ≡ before n
        → Opens start (suc w) (record { path = l.path ++ p.path; position = n; state = compose l.state p.stack })

  -- a record that may then be made
  pub data Recorded : Rec → Type 0 where
    arrives : {start w t energy : ℕ} {l : Level} {p : Parent} → Opens start w l → w < 256 → Parented l p → read p.stack l.position ≡ jumpdest t
        → Recorded (record { start = start; to = found t (compose l.state p.stack); path = l.path ++ p.path; energy = energy })
    is_lost : {start w energy : ℕ} {l : Level} {p : Parent} → Opens start w l → w < 256 → Parented l p → Lost (read p.stack l.position)
        → Recorded (record { start = start; to = nowhere; path = l.path ++ p.path; energy = energy })
    too-heavy : {start energy : ℕ} {l : Level} {p : Parent} → Opens start 256 l → Parented l p
        → Recorded (record { start = start; to = nowhere; path = l.path ++ p.path; energy = energy })

-- what a round does
pub data Trace (ns : List Node) (reached : List ℕ) : St → St → Type 0 where
  nothing : {s : St} → Trace ns reached s s
  then : {s t u : St} → Trace ns reached s t → Trace ns reached t u → Trace ns reached s u
  -- a level opens, with parents or with none
  opens : {s : St} {start w : ℕ} {l : Level} → Opens ns reached s.recs start w l → Trace ns reached s s
  -- step 1, for a parent of a level
  counts : {s : St} {start w : ℕ} {l : Level} {p : Parent} → Opens ns reached s.recs start w l → Parented ns reached s.recs l p → Trace ns reached s (spend s)
  -- a record, which carries the energy counted so far
  records : {s : St} {r : Rec} → Recorded ns reached s.recs r → r.energy ≡ s.energy → Trace ns reached s (add r s)
  asks : {s : St} (r : Room) (u : ℕ) → Trace ns reached s (need r u s)
  remembers : {s : St} (m : Met) → Trace ns reached s (remember m s)
  forgets : {s : St} → Trace ns reached s (forget s)

-- what a search does: at most so many rounds, each beginning with what is then reached
pub data Rounds (ns : List Node) : ℕ → St → St → Type 0 where
  no_more : {n : ℕ} {s : St} → Rounds ns n s s
  a_round : {n : ℕ} {s t u : St} → Trace ns (reached_by ns s.recs) s t → Rounds ns n t u → Rounds ns (suc n) s u

-- ---- what was so stays so as records are added

module _ (ns : List Node) (reached : List ℕ) (recs more : List Rec) where
  live_more : (a : ℕ) → Live ns reached recs a → Live ns reached (recs ++ more) a
  live_more a (inl h) = inl h
  live_more a (inr h) = inr (subst (λ (l : List ℕ). mem a l ≡ true) (sym (gather_append (λ (r : Rec). dest r.to) recs more)) (mem-left a (dests recs) (dests more) h))

  stored_more : {p : Parent} → Stored ns recs p → Stored ns (recs ++ more) p
  stored_more {p} i = split (in-cases (direct ns) i)
    where
      split : In p (direct ns) ⊎ In p (found_parents recs) → Stored ns (recs ++ more) p
      split (inl q) = in_left q _
      split (inr q) = in_right (direct ns) (subst (In p) (sym (gather_append (λ (r : Rec). leads r.path r.to) recs more)) (in_left q (found_parents more)))

  parented-more : {l : Level} {p : Parent} → Parented ns reached recs l p → Parented ns reached (recs ++ more) l p
  parented-more h = record { stored = stored_more h.stored; joined = h.joined; live = live_more _ h.live }

  opens-more : {start w : ℕ} {l : Level} → Opens ns reached recs start w l → Opens ns reached (recs ++ more) start w l
  opens-more (first-level i e h) = first-level i e h
  opens-more (deeper-level o w h e) = deeper-level (opens-more o) w (parented-more h) e

pub trace-grows : {ns : List Node} {reached : List ℕ} {s t : St} → Trace ns reached s t → Grows s t
trace-grows (nothing {s}) = grows-refl s s refl
trace-grows (then a b) = grows-trans (trace-grows a) (trace-grows b)
trace-grows (opens {s} o) = grows-refl s s refl
trace-grows (counts {s} o h) = grows-refl s _ refl
trace-grows (records {r} h n) = record { new = r ∷ []; is = refl }
trace-grows (asks {s} r u) = grows-refl s _ refl
trace-grows (remembers {s} m) = grows-refl s _ refl
trace-grows (forgets {s}) = grows-refl s _ refl

-- ---- the search does nothing else

module _ (ns : List Node) (reached : List ℕ) where
  abbrev Does : St → St → Type 0
  Does = Trace ns reached

  -- what is fixed in the turn
  record Fixed (c : Turn) : Type 0 where
    stored : c.stored ≡ direct ns
    reached-is : c.reached ≡ reached

  opens-on : {start w : ℕ} {l : Level} {s t : St} → Opens ns reached s.recs start w l → Does s t → Opens ns reached t.recs start w l
  opens-on {start} {w} {l} {s} o d =
      let g = trace-grows d in subst (λ (r : List Rec). Opens ns reached r start w l) (sym g.is) (opens-more ns reached s.recs g.new o)

  parented-on : {l : Level} {p : Parent} {s t : St} → Parented ns reached s.recs l p → Does s t → Parented ns reached t.recs l p
  parented-on {l} {p} {s} h d =
      let g = trace-grows d in subst (λ (r : List Rec). Parented ns reached r l p) (sym g.is) (parented-more ns reached s.recs g.new h)

  asked : {s : St} (path : List ℕ) {r : Rec} → Recorded ns reached s.recs r → r.energy ≡ s.energy → Does s (add r (writes path s))
  asked path h n = then (asks _ _) (then (asks _ _) (records h n))

  does-nowhere : (c : Turn) (path : List ℕ) (s : St) → Recorded ns reached s.recs (record { start = c.start; to = nowhere; path = path; energy = s.energy }) → Does s (record_nowhere c path s)
  unfolding record_nowhere
  does-nowhere c path s h = both (Does s) _ (λ _. nothing) (λ _. asked path h refl)

  does-found : (c : Turn) (t : ℕ) (new : Stack) (path : List ℕ) (s : St) → Recorded ns reached s.recs (record { start = c.start; to = found t new; path = path; energy = s.energy })
      → Does s (record_found c t new path s)
  unfolding record_found
  does-found c t new path s h = both (Does s) _ (λ _. nothing) (λ _. then (asks _ _) (then (asks _ _) (then (asks _ _) (records h refl))))

  -- what a deeper level does, from any state in which it may open
  abbrev Deeper : Turn → ℕ → (Level → St → St) → Type 0
  Deeper c w deeper = (l : Level) (s : St) → Opens ns reached s.recs c.start w l → Does s (deeper l s)

  module _ (c : Turn) (deeper : Level → St → St) (w : ℕ) (light : w < 256) (ih : Deeper c (suc w) deeper) (l : Level) (p : Parent) where
    does-arrive : (s : St) → Opens ns reached s.recs c.start w l → Parented ns reached s.recs l p → (x : Sym) → read p.stack l.position ≡ x
        → Does s (arrive c deeper (l.path ++ p.path) (compose l.state p.stack) x s)
    unfolding arrive
    does-arrive s o h (before n) e = ih _ s (deeper-level o light h e)
    does-arrive s o h (jumpdest t) e = does-found c t _ _ s (arrives o light h e)
    does-arrive s o h (constant v) e = does-nowhere c _ s (is_lost o light h (subst Lost (sym e) (lost_constant v)))
    does-arrive s o h (other pc) e = does-nowhere c _ s (is_lost o light h (subst Lost (sym e) (lost_other pc)))

    does-follow : (s : St) → Opens ns reached s.recs c.start w l → Parented ns reached s.recs l p → Does s (follow c deeper l p (l.path ++ p.path) s)
    unfolding follow
    does-follow s o h =
        both (Does s) _ (λ _. asks S _)
        (λ _. then (asks S _) (then (asks _ _) (then (remembers _) (does-arrive _ o h (read p.stack l.position) refl))))

  -- the parents that a level opens with are parents of it
  parents-are : (c : Turn) (l : Level) (s : St) → Fixed c → (p : Parent) → In p (parents c (last_of l.path) s) → Parented ns reached s.recs l p
  unfolding parents
  parents-are c l s k p i =
      record { stored = rw (← k.stored) got.1; joined = sym (eqb-true _ _ tests.0); live = live (or_cases (mem last c.reached) (mem last (dests s.recs)) tests.1) }
    where
      last : ℕ
      last = last_of p.path

      got : (eqb (last_of l.path) p.to && (mem last c.reached || mem last (dests s.recs)) ≡ true) × In p (c.stored ++ found_parents s.recs)
      got = in-keep _ _ i

      tests : (eqb (last_of l.path) p.to ≡ true) × (mem last c.reached || mem last (dests s.recs) ≡ true)
      tests = and_both _ _ got.0

      live : (mem last c.reached ≡ true) ⊎ (mem last (dests s.recs) ≡ true) → Live ns reached s.recs (last_of p.path)
      live (inl q) = inl (subst (λ (r : List ℕ). mem (last_of p.path) r ≡ true) k.reached-is q)
      live (inr q) = inr q

  module _ (limit : ℕ) (c : Turn) (w : ℕ) (l : Level) (go : Parent → List ℕ → St → St)
      (goes : (p : Parent) (s : St) → Opens ns reached s.recs c.start w l → Parented ns reached s.recs l p → Does s (go p (l.path ++ p.path) s)) where
    does-one : (p : Parent) (s : St) → Opens ns reached s.recs c.start w l → Parented ns reached s.recs l p
        → Does s (if (loops p.path l.path) (spend s) (go p (l.path ++ p.path) (need P (length (l.path ++ p.path)) (spend s))))
    does-one p s o h = both (Does s) _ (λ _. counts o h) (λ _. then (counts o h) (then (asks P _) (goes p _ o h)))

    does-tries : (ps : List Parent) (s : St) → Opens ns reached s.recs c.start w l → ((p : Parent) → In p ps → Parented ns reached s.recs l p)
        → Does s (tries limit go l.path ps s)
    unfolding tries
    does-tries [] s o h = nothing
    does-tries (p ∷ ps) s o h =
        let one = does-one p s o (h p here) in
        both (Does s) _ (λ _. counts o (h p here)) (λ _. then one (does-tries ps _ (opens-on o one) (λ q i. parented-on (h q (there i)) one)))

  -- a level's number and its path's weight come to 256
  does-level : (limit : ℕ) (c : Turn) → Fixed c → (n w : ℕ) → w + n ≡ 256 → Deeper c w (level limit c n)
  unfolding level
  does-level limit c k zero w e l s o =
      then (opens o)
      (does-tries limit c w l _ (λ p t o h. does-nowhere c _ t (too-heavy (subst (λ (x : ℕ). Opens ns reached t.recs c.start x l) (omega arith) o) h)) _ s o (parents-are c l s k))
  does-level limit c k (suc n) w e l s o =
      then (opens o) (does-tries limit c w l _ (λ p. does-follow c _ w (omega arith) (does-level limit c k n (suc w) (omega arith)) l p) _ s o (parents-are c l s k))

  does-turn : (limit : ℕ) (k : Taker) (s : St) → In k (takers ns) → mem k.start reached ≡ true → Does s (turn limit (turn_for (direct ns) reached k) k.position s)
  unfolding turn
  does-turn limit k s i live =
      then (asks P 1) (then (asks S _)
      (then (does-level limit (turn_for (direct ns) reached k) (record { stored = refl; reached-is = refl }) 255 1 (omega arith) _ _ (first-level i refl live)) forgets))

  does-round : (limit : ℕ) (ks : List Taker) → ((k : Taker) → In k ks → In k (takers ns)) → (s : St) → Does s (round limit (direct ns) reached ks s)
  unfolding round
  does-round limit [] are s = nothing
  does-round limit (k ∷ ks) are s =
      then (both (Does s) (mem k.start reached && ltb s.energy limit) (λ on. does-turn limit k s (are k here) (and_both _ _ on).0) (λ _. nothing))
      (does-round limit ks (λ j i. are j (there i)) _)

does-rounds : (n limit : ℕ) (ns : List Node) (s : St) → Rounds ns n s (rounds n limit ns s)
unfolding rounds
does-rounds zero limit ns s = no_more
does-rounds (suc n) limit ns s =
    both (Rounds ns (suc n) s) _ (λ _. both (Rounds ns (suc n) s) _ (λ _. a_round one no_more) (λ _. a_round one (does-rounds n limit ns _))) (λ _. no_more)
  where
    one : Trace ns (reached_by ns s.recs) s (round limit (direct ns) (reached_by ns s.recs) (takers ns) s)
    one = does-round ns (reached_by ns s.recs) limit (takers ns) (λ k i. i) s

-- Everything that the search does is as the rule says, in at most 128 rounds.
pub search-rounds : (limit : ℕ) (ns : List Node) → Rounds ns 128 begin (search limit ns)
unfolding search
search-rounds limit ns = does-rounds 128 limit ns begin

-- ---- the record, one after the other

-- the record came of those before it, in a round that began with the `older` ones
pub record Came (ns : List Node) (before : List Rec) (r : Rec) : Type 0 where
  pub older : List Rec
  pub since : List Rec
  pub is : before ≡ older ++ since
  pub made : Recorded ns (reached_by ns older) before r

abbrev pub History : List Node → List Rec → Type 0
History ns = Each (Came ns)

module _ (ns : List Node) (older : List Rec) where
  history-trace : {s t : St} → Trace ns (reached_by ns older) s t → (since : List Rec) → s.recs ≡ older ++ since → History ns s.recs → History ns t.recs
  history-trace nothing since e h = h
  history-trace (then a b) since e h =
      let g = trace-grows a in
      history-trace b (since ++ g.new) (g.is ∙ ap (λ (l : List Rec). l ++ g.new) e ∙ append_assoc older since g.new) (history-trace a since e h)
  history-trace (opens o) since e h = h
  history-trace (counts o k) since e h = h
  history-trace (records k n) since e h = each_snoc h (record { older = older; since = since; is = e; made = k })
  history-trace (asks r u) since e h = h
  history-trace (remembers m) since e h = h
  history-trace forgets since e h = h

history-rounds : {ns : List Node} {n : ℕ} {s t : St} → Rounds ns n s t → History ns s.recs → History ns t.recs
history-rounds no_more h = h
history-rounds {ns} (a_round {s} a b) h = history-rounds b (history-trace ns s.recs a [] (sym (append-nil s.recs)) h)

-- Every record of the search came so.
pub search-history : (limit : ℕ) (ns : List Node) → History ns (search limit ns).recs
search-history limit ns = history-rounds (search-rounds limit ns) all_done
