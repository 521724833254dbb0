-- resolver.rs, lines 401 to 458: the rounds. Assumes nothing.
use Prim.Native.Nat.{ℕ, zero, suc, ◌<◌, ◌≤◌}
use native.Mathlib.Omega.{arith}
use native.Mathlib.Nat.{le_refl}
use mathlib.Core.Path.{◌≡◌, refl, sym, ap, ap₂, subst, ◌∙◌}
use mathlib.Core.Bool.{Bool, true, false, not, ◌&&◌, ◌||◌}
use mathlib.Core.Option.{Option, none, some}
use mathlib.Core.List.{List, [], ◌∷◌, ◌++◌, map, append-nil}
use lib.Dec.{eqb, leb, ltb}
use lib.ListN.{length, length-append}
use borrow.Author.Tests.{eq-eqb, ne_eqb, leb-true, leb-false, lt-ltb, le-ltb}
use Rattle.spec.specs.Lists.{if, mem}
use Rattle.spec.specs.Opcodes.{Row}
use Rattle.spec.specs.Blocks.{Kind, terminate, jump, jumpi, dynamic_jump, dynamic_jumpi}
use Rattle.spec.specs.Stacks.{Sym, before, constant, jumpdest, other}
use Rattle.spec.specs.Search.{Node, Taker, taker, takes, takers, Parent, direct, edges, Rec, dests, St, turn_for, turn, round, reached_by, rounds}
use Rattle.spec.specs.Ending.{entries_of}
use Rattle.laws.proofs.Branch.{if-true, if-false, and_then, and-false}
use Rattle.laws.proofs.Members.{In, here, there, in_mem, mem-in, in-gather}
use Rattle.laws.proofs.Lists.{Rising}
use Rattle.theorems.proofs.Answered.{finals-at}
use Rattle.theorems.proofs.Counts.{Lawful}
use Rattle.theorems.proofs.Reached.{seed, closure-complete}
use Rattle.theorems.proofs.Batches.{◌≈◌}
use Rattle.theorems.proofs.BatchedSearch.{round_same}
use Rattle.source.proofs.AnyOrder.{held, targets_of, round-leaves}
use Rattle.source.proofs.Extending.{pops, extend-each}
use Rattle.source.specs.Collections.{unwrap_or, get}
use Rattle.source.specs.Types.{Blocks}
use Rattle.source.specs.Shown.{view}
use Rattle.source.specs.Reachable.{Witnesses, extend_reachable_nodes}
use Rattle.source.specs.Resolver.{RevIdx, set_reachable0, Round, ENERGY-LIMIT, one_turn, for_turns, for_rounds}
use Rattle.source.proofs.Iterating.{Sized}
use Rattle.source.proofs.Caches.{own_of}
use Rattle.source.proofs.Tables.{Sim}
use Rattle.source.proofs.Visiting.{extend_same}
use Rattle.source.proofs.Turning.{shows, node-starts, Turns, turns_jump, turns_jumpi, base, Stands, Took, turn-taken}

-- ---- the blocks that take turns

-- a taker's block
pub record Of (n : Node) (k : Taker) : Type 0 where
  pub start : k.start ≡ n.block.start
  pub first : k.first ≡ n.own.stack
  pub turns : Turns n.block.kind

taker-of : (n : Node) → Turns n.block.kind → (g : Option Sym) {k : Taker} → In k (taker n g) → Of n k
taker-of n t none i = elim i [ ]
taker-of n t (some (before p)) here = record { start = refl; first = refl; turns = t }
taker-of n t (some (before p)) (there i) = elim i [ ]
taker-of n t (some (constant v)) i = elim i [ ]
taker-of n t (some (jumpdest v)) i = elim i [ ]
taker-of n t (some (other pc)) i = elim i [ ]

pub kind-of : (n : Node) (x : Kind) → n.block.kind ≡ x → {k : Taker} → In k (takes n x) → Of n k
kind-of n (terminate success) e i = elim i [ ]
kind-of n (jump t) e i = elim i [ ]
kind-of n (jumpi t f) e i = elim i [ ]
kind-of n dynamic_jump e i = taker-of n (subst Turns (sym e) turns_jump) n.own.goes i
kind-of n (dynamic_jumpi f) e i = taker-of n (subst Turns (sym e) turns_jumpi) n.own.goes i

pub taker-node : {ns : List Node} {k : Taker} → In k (takers ns) → (n : Node) × In n ns × Of n k
taker-node {ns} i = let g = in-gather (λ (n : Node). takes n n.block.kind) ns i in (g.0, g.1, kind-of g.0 g.0.block.kind refl g.2)

-- `stack_pos`
abbrev pub positions : List Taker → List (ℕ × ℕ)
positions ks = map (λ (k : Taker). (k.start, k.position)) ks

-- ---- lines 411 to 453

turns-step : (row : ℕ → Row) (code : List ℕ) (reached : List ℕ) (k : ℕ × ℕ) (ks : List (ℕ × ℕ)) (o : Round)
    → for_turns row code reached (k ∷ ks) o
    ≡ if (not (mem k.0 reached)) (for_turns row code reached ks o) (if (leb ENERGY-LIMIT o.total_energy_used) (some o) (and_then (one_turn row code k.0 k.1 o) (for_turns row code reached ks)))
unfolding for_turns
turns-step row code reached k ks o = refl

turns-none : (row : ℕ → Row) (code : List ℕ) (reached : List ℕ) (o : Round) → for_turns row code reached [] o ≡ some o
unfolding for_turns
turns-none row code reached o = refl

round-none : (limit : ℕ) (stored : List Parent) (reached : List ℕ) (s : St) → round limit stored reached [] s ≡ s
unfolding round
round-none limit stored reached s = refl

round-step : (limit : ℕ) (stored : List Parent) (reached : List ℕ) (k : Taker) (ks : List Taker) (s : St)
    → round limit stored reached (k ∷ ks) s
    ≡ round limit stored reached ks (if (mem k.start reached && ltb s.energy limit) (turn limit (turn_for stored reached k) k.position s) s)
unfolding round
round-step limit stored reached k ks s = refl

-- once the limit is reached, no turn is taken
idle : (limit : ℕ) (stored : List Parent) (reached : List ℕ) (ks : List Taker) (s : St) → limit ≤ s.energy → round limit stored reached ks s ≡ s
idle limit stored reached [] s h = round-none limit stored reached s
idle limit stored reached (k ∷ ks) s h =
    round-step limit stored reached k ks s
    ∙ ap (round limit stored reached ks) (if-false _ _ _ (and-false (mem k.start reached) (le-ltb s.energy limit h))) ∙ idle limit stored reached ks s h

module _ {row : ℕ → Row} (ok : Lawful row) (sized : Sized row) (code : List ℕ) (ns : List Node) (rises : Rising 0 (node-starts ns))
    (owns : (n : Node) → In n ns → n.own.stack ≡ own_of row code n.block.start) where
  abbrev Turned : List ℕ → List Taker → Type 0
  Turned reached ks = (older : List Rec) (s : St) (o : Round) → Stands row code ns older reached s o
      → Took row code ns older reached (round ENERGY-LIMIT (direct ns) reached ks s) (for_turns row code reached (positions ks) o)

  no-turns : (reached : List ℕ) → Turned reached []
  no-turns reached older s o st = rw (round-none ENERGY-LIMIT (direct ns) reached s, turns-none row code reached o) (record { next = o; is = refl; stands = st })

  then_turns : (reached : List ℕ) (ks : List Taker) → Turned reached ks → {older : List Rec} {t : St} {q : Option Round} → Took row code ns older reached t q
      → Took row code ns older reached (round ENERGY-LIMIT (direct ns) reached ks t) (and_then q (for_turns row code reached (positions ks)))
  then_turns reached ks rest {older} {t} {q} w =
      let v = rest older t w.next w.stands in
      record { next = v.next; is = ap (λ (x : Option Round). and_then x (for_turns row code reached (positions ks))) w.is ∙ v.is; stands = v.stands }

  a_turn : (reached : List ℕ) (k : Taker) (ks : List Taker) → In k (takers ns) → Turned reached ks → Turned reached (k ∷ ks)
  a_turn reached k ks i rest older s o st =
      rw (round-step ENERGY-LIMIT (direct ns) reached k ks s, turns-step row code reached (k.start, k.position) (positions ks) o)
      (split (mem k.start reached) refl (leb ENERGY-LIMIT o.total_energy_used) refl)
    where
      took : St
      took = turn ENERGY-LIMIT (turn_for (direct ns) reached k) k.position s

      split : (b : Bool) → mem k.start reached ≡ b → (l : Bool) → leb ENERGY-LIMIT o.total_energy_used ≡ l
          → Took row code ns older reached (round ENERGY-LIMIT (direct ns) reached ks (if (mem k.start reached && ltb s.energy ENERGY-LIMIT) took s))
          (if (not (mem k.start reached)) (for_turns row code reached (positions ks) o)
          (if (leb ENERGY-LIMIT o.total_energy_used) (some o) (and_then (one_turn row code k.start k.position o) (for_turns row code reached (positions ks)))))
      split false e l f =
          rw (if-true (not (mem k.start reached)) _ _ (ap not e), if-false (mem k.start reached && ltb s.energy ENERGY-LIMIT) took s (ap (λ (b : Bool). b && ltb s.energy ENERGY-LIMIT) e))
          (rest older s o st)
      split true e true f =
          let h : ENERGY-LIMIT ≤ s.energy = omega (arith, leb-true ENERGY-LIMIT o.total_energy_used f, st.energy-is) in
          rw (
            if-false (not (mem k.start reached)) _ _ (ap not e),
            if-true (leb ENERGY-LIMIT o.total_energy_used) _ _ f,
            if-false (mem k.start reached && ltb s.energy ENERGY-LIMIT) took s (and-false (mem k.start reached) (le-ltb s.energy ENERGY-LIMIT h)),
            idle ENERGY-LIMIT (direct ns) reached ks s h,
          )
          (record { next = o; is = refl; stands = st })
      split true e false f =
          let h : s.energy < ENERGY-LIMIT = omega (arith, leb-false ENERGY-LIMIT o.total_energy_used f, st.energy-is) in
          let n = taker-node i in
          let w = turn-taken ok sized code ns rises k i n.0 n.1 n.2.turns n.2.start (n.2.first ∙ owns n.0 n.1 ∙ ap (own_of row code) (sym n.2.start)) older reached s o st h in
          rw (
            if-false (not (mem k.start reached)) _ _ (ap not e),
            if-false (leb ENERGY-LIMIT o.total_energy_used) _ _ f,
            if-true (mem k.start reached && ltb s.energy ENERGY-LIMIT) took s (ap₂ ◌&&◌ e (lt-ltb s.energy ENERGY-LIMIT h)),
          )
          (then_turns reached ks rest w)

  all-turns : (reached : List ℕ) (ks : List Taker) → ((k : Taker) → In k ks → In k (takers ns)) → Turned reached ks
  all-turns reached [] h = no-turns reached
  all-turns reached (k ∷ ks) h = a_turn reached k ks (h k here) (all-turns reached ks (λ j i. h j (there i)))

  -- ---- lines 401 to 458

  rounds-step : (n : ℕ) (pos : List (ℕ × ℕ)) (got : List ℕ) (r : RevIdx) (bs : Blocks) (total : ℕ) (wt : Witnesses)
      → for_rounds row code (suc n) pos got r bs total wt
      ≡ if (leb ENERGY-LIMIT total) (some bs)
      (and_then (for_turns row code got pos (record { idx = set_reachable0 got r; blocks = bs; total_energy_used = total; witness_targets = wt; found_new_paths = false; new_targets = [] })) (λ o.
      if (not o.found_new_paths) (some o.blocks)
      (and_then (extend_reachable_nodes o.blocks got o.witness_targets o.new_targets) (λ e. for_rounds row code n pos e.0 o.idx o.blocks o.total_energy_used o.witness_targets))))
  unfolding for_rounds
  rounds-step n pos got r bs total wt = refl

  rounds-none : (pos : List (ℕ × ℕ)) (got : List ℕ) (r : RevIdx) (bs : Blocks) (total : ℕ) (wt : Witnesses) → for_rounds row code 0 pos got r bs total wt ≡ some bs
  unfolding for_rounds
  rounds-none pos got r bs total wt = refl

  defined-step : (n : ℕ) (s : St)
      → rounds (suc n) ENERGY-LIMIT ns s
      ≡ if (ltb s.energy ENERGY-LIMIT) (if (eqb (length (round ENERGY-LIMIT (direct ns) (reached_by ns s.recs) (takers ns) s).recs) (length s.recs))
      (round ENERGY-LIMIT (direct ns) (reached_by ns s.recs) (takers ns) s) (rounds n ENERGY-LIMIT ns (round ENERGY-LIMIT (direct ns) (reached_by ns s.recs) (takers ns) s))) s
  unfolding rounds
  defined-step n s = refl

  defined-none : (s : St) → rounds 0 ENERGY-LIMIT ns s ≡ s
  unfolding rounds
  defined-none s = refl

  abbrev pub Taken : List Rec → Type 0
  Taken recs = (x : Rec) → In x recs → (k : Taker) × In k (takers ns) × (x.start ≡ k.start)

  -- no panic, and the blocks show the state's records
  pub record Shows (t : St) (o : Option Blocks) : Type 0 where
    pub is : o ≡ some (shows ns t.recs)
    pub taken : Taken t.recs

  abbrev Between : ℕ → Type 0
  Between n = (got reached : List ℕ) (s : St) (r : RevIdx) (wt : Witnesses) → got ≈ reached_by ns s.recs → s.met ≡ [] → Sim row code (base ns reached) s.recs [] r
      → ((w : ℕ) → unwrap_or [] (get eqb w wt) ≡ targets_of s.recs w) → Taken s.recs
      → Shows (rounds n ENERGY-LIMIT ns s) (for_rounds row code n (positions (takers ns)) got r (shows ns s.recs) s.energy wt)

  no-rounds : Between zero
  no-rounds got reached s r wt g clear h told taken = rw (defined-none s, rounds-none (positions (takers ns)) got r (shows ns s.recs) s.energy wt) (record { is = refl; taken = taken })

  -- what was found is reached
  found-reached : (got : List ℕ) (recs : List Rec) → got ≈ reached_by ns recs → (a : ℕ) → mem a got ≡ mem a got || mem a (dests recs)
  found-reached got recs g a = split (mem a (dests recs)) refl
    where
      split : (b : Bool) → mem a (dests recs) ≡ b → mem a got ≡ mem a got || mem a (dests recs)
      split true e =
          let on : mem a got ≡ true = g a ∙ closure-complete (edges ns) (0 ∷ dests recs) a (seed (in_mem a (there {y = 0} (mem-in a (dests recs) e)))) in
          on ∙ sym (ap (λ (b : Bool). b || mem a (dests recs)) on)
      split false e = sym (ap (λ (b : Bool). mem a got || b) e ∙ or-none (mem a got))
        where
          or-none : (b : Bool) → b || false ≡ b
          or-none true = refl
          or-none false = refl

  -- lines 406 to 409
  begun : (got reached : List ℕ) (s : St) (r : RevIdx) (wt : Witnesses) → got ≈ reached_by ns s.recs → s.met ≡ [] → Sim row code (base ns reached) s.recs [] r
      → ((w : ℕ) → unwrap_or [] (get eqb w wt) ≡ targets_of s.recs w) → Taken s.recs
      → Stands row code ns s.recs got s (record { idx = set_reachable0 got r; blocks = shows ns s.recs; total_energy_used = s.energy; witness_targets = wt; found_new_paths = false; new_targets = [] })
  begun got reached s r wt g clear h told taken = record {
    new = [];
    grown = sym (append-nil s.recs);
    clear = clear;
    sim = record {
      cached = record { shallow = h.cached.shallow; deep = h.cached.deep; replayed = h.cached.replayed };
      table = h.table;
      inter = h.inter;
      bad = h.bad;
      live = found-reached got s.recs g;
      along = h.along;
      short = h.short;
    };
    blocks_are = refl;
    energy-is = refl;
    told = told;
    targets-are = refl;
    found-is = sym (ap not (eq-eqb 0 0 refl));
    taken = taken;
  }

  held_at : (ns : List Node) (entries : Node → List Rec) → finals-at (held ns entries) ≡ node-starts ns
  held_at [] entries = refl
  held_at (n ∷ ns) entries = ap {B = List ℕ} (λ (l : List ℕ). n.block.start ∷ l) (held_at ns entries)

  -- line 457
  grown-set : (got : List ℕ) (recs new now : List Rec) → recs ++ new ≡ now → (entries : Node → List Rec) → got ≈ reached_by ns recs
      → (set : List ℕ)
      × (extend-each (pops (held ns entries) (targets_of now)) (held ns entries) (targets_of now) got (dests new ∷ []) ≡ some set)
      × (set ≈ reached_by ns now)
  grown-set got recs new now e entries g =
      subst
      (λ (now : List Rec). (set : List ℕ)
      × (extend-each (pops (held ns entries) (targets_of now)) (held ns entries) (targets_of now) got (dests new ∷ []) ≡ some set)
      × (set ≈ reached_by ns now)) e
      (round-leaves entries ns recs new got g (subst (Rising 0) (sym (held_at ns entries)) rises) _ (dests new ∷ [])
      (λ b i. le_refl (pops (held ns entries) (targets_of (recs ++ new)) b)) (append-nil (dests new)))

  -- after a round
  module _ (n : ℕ) (later : Between n) (got : List ℕ) (s t : St) (o : Round) (g : got ≈ reached_by ns s.recs) (clear : t.met ≡ []) (st : Stands row code ns s.recs got t o) where
    abbrev goes_on : Option Blocks
    goes_on =
        if (not o.found_new_paths) (some o.blocks)
        (and_then (extend_reachable_nodes o.blocks got o.witness_targets o.new_targets) (λ e.
        for_rounds row code n (positions (takers ns)) e.0 o.idx o.blocks o.total_energy_used o.witness_targets))

    abbrev defined : St
    defined = if (eqb (length t.recs) (length s.recs)) t (rounds n ENERGY-LIMIT ns t)

    last-round : st.new ≡ [] → Shows defined goes_on
    last-round e =
        rw (if-true (eqb (length t.recs) (length s.recs)) t (rounds n ENERGY-LIMIT ns t) (eq-eqb _ _ (ap length (st.grown ∙ ap (λ (l : List Rec). s.recs ++ l) e ∙ append-nil s.recs))))
        (record {
          is = if-true _ _ _ (ap not (st.found-is ∙ ap (λ (l : List Rec). not (eqb (length l) 0)) e ∙ ap not (eq-eqb 0 0 refl))) ∙ ap some st.blocks_are;
          taken = st.taken;
        })

    next-round : (x : Rec) (xs : List Rec) → st.new ≡ x ∷ xs → Shows defined goes_on
    next-round x xs e =
        let l = grown-set got s.recs st.new t.recs (sym st.grown) (λ (m : Node). entries_of m.block.start t.recs) g in
        let fs = held ns (λ (m : Node). entries_of m.block.start t.recs) in
        let k = later l.0 got t o.idx o.witness_targets l.2 clear st.sim st.told st.taken in
        let found : not o.found_new_paths ≡ false = ap not (st.found-is ∙ ap not (ne_eqb (length st.new) 0 (λ z. absurd (omega (arith, ap length e))))) in
        let longer : eqb (length t.recs) (length s.recs) ≡ false = ne_eqb (length t.recs) (length s.recs) (λ z. absurd (omega (arith, z, ap length st.grown, length-append s.recs st.new, ap length e))) in
        rw (if-false (eqb (length t.recs) (length s.recs)) t (rounds n ENERGY-LIMIT ns t) longer)
        (record {
          is = if-false _ _ _ found
              ∙ ap₂ (λ (bs : Blocks) (ts : List ℕ). and_then (extend_reachable_nodes bs got o.witness_targets ts) (λ e. for_rounds row code n (positions (takers ns)) e.0 o.idx bs o.total_energy_used o.witness_targets))
              st.blocks_are st.targets-are
              ∙ ap (λ (x : Option (List ℕ × Bool)). and_then x (λ e. for_rounds row code n (positions (takers ns)) e.0 o.idx (map view fs) o.total_energy_used o.witness_targets))
              (extend_same o.witness_targets (targets_of t.recs) st.told fs got (dests st.new) l.0 l.1)
              ∙ ap (λ (u : ℕ). for_rounds row code n (positions (takers ns)) l.0 o.idx (map view fs) u o.witness_targets) st.energy-is ∙ k.is;
          taken = k.taken;
        })

    pub after-round : Shows defined goes_on
    after-round = split st.new refl
      where
        split : (l : List Rec) → st.new ≡ l → Shows (if (eqb (length t.recs) (length s.recs)) t (rounds n ENERGY-LIMIT ns t)) goes_on
        split [] e = last-round e
        split (x ∷ xs) e = next-round x xs e

  a_round : (n : ℕ) → Between n → Between (suc n)
  a_round n later got reached s r wt g clear h told taken =
      rw (defined-step n s, rounds-step n (positions (takers ns)) got r (shows ns s.recs) s.energy wt, ← round_same ENERGY-LIMIT (direct ns) got (reached_by ns s.recs) g (takers ns) s)
      (split (leb ENERGY-LIMIT s.energy) refl)
    where
      t : St
      t = round ENERGY-LIMIT (direct ns) got (takers ns) s

      first : Round
      first = record { idx = set_reachable0 got r; blocks = shows ns s.recs; total_energy_used = s.energy; witness_targets = wt; found_new_paths = false; new_targets = [] }

      on : Round → Option Blocks
      on = λ o. if (not o.found_new_paths) (some o.blocks)
          (and_then (extend_reachable_nodes o.blocks got o.witness_targets o.new_targets) (λ e. for_rounds row code n (positions (takers ns)) e.0 o.idx o.blocks o.total_energy_used o.witness_targets))

      w : Took row code ns s.recs got t (for_turns row code got (positions (takers ns)) first)
      w = all-turns got (takers ns) (λ k i. i) s.recs s first (begun got reached s r wt g clear h told taken)

      split : (b : Bool) → leb ENERGY-LIMIT s.energy ≡ b
          → Shows (if (ltb s.energy ENERGY-LIMIT) (if (eqb (length t.recs) (length s.recs)) t (rounds n ENERGY-LIMIT ns t)) s)
          (if (leb ENERGY-LIMIT s.energy) (some (shows ns s.recs)) (and_then (for_turns row code got (positions (takers ns)) first) on))
      split true e =
          rw (if-false (ltb s.energy ENERGY-LIMIT) (if (eqb (length t.recs) (length s.recs)) t (rounds n ENERGY-LIMIT ns t)) s (le-ltb s.energy ENERGY-LIMIT (leb-true _ _ e)))
          (record { is = if-true _ _ _ e; taken = taken })
      split false e =
          let a = after-round n later got s t w.next g w.stands.clear w.stands in
          rw (if-true (ltb s.energy ENERGY-LIMIT) (if (eqb (length t.recs) (length s.recs)) t (rounds n ENERGY-LIMIT ns t)) s (lt-ltb s.energy ENERGY-LIMIT (leb-false _ _ e)))
          (record { is = if-false _ _ _ e ∙ ap (λ (x : Option Round). and_then x on) w.is ∙ a.is; taken = a.taken })

  -- The rounds of the Rust never panic, and the blocks that they leave show the records of the definitions' rounds.
  pub all-rounds : (n : ℕ) → Between n
  all-rounds zero = no-rounds
  all-rounds (suc n) = a_round n (all-rounds n)
