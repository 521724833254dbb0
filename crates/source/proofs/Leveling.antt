-- resolver.rs, lines 188 to 317: `resolve_dynamic_jump_path` never panics, and does what a level does: the jumps that it returns are the level's records, in
-- order, the energy that it uses is the level's, and the index tells of the state what it told before. The energy limit that it is handed is what is left of the
-- run's. Assumes nothing.
use Prim.Native.Nat.{ℕ, zero, suc, ◌+◌, ◌-◌, ◌<◌, ◌≤◌}
use native.Mathlib.Omega.{arith}
use mathlib.Core.Path.{◌≡◌, refl, sym, ap, subst, ◌∙◌}
use mathlib.Core.Logic.{◌⊎◌, inl, inr}
use mathlib.Core.Bool.{Bool, true, false, not, ◌&&◌, ◌||◌, or_assoc}
use mathlib.Core.Option.{Option, none, some}
use mathlib.Core.List.{List, [], ◌∷◌, ◌++◌, map, append_assoc, append-nil}
use lib.Dec.{eqb, leb, ltb}
use lib.ListN.{length, length-append}
use borrow.Author.Tests.{ltb-true, ltb-false, lt-ltb, le-ltb, le-leb}
use Rattle.spec.specs.Lists.{if, mem, same, last_of, keep, some?}
use Rattle.spec.specs.Opcodes.{Row}
use Rattle.spec.specs.Stacks.{Sym, before, constant, jumpdest, other, Stack, cells, read, compose}
use Rattle.spec.specs.Search.{Parent, nowhere, found, Rec, dest, dests, P, Met, St, need, spend, remember, add, Turn, Level, parents, S, T, in_use, writes, record_nowhere, record_found, arrive, follow, loops, tries, level}
use Rattle.laws.proofs.Branch.{if-true, if-false, and_then}
use Rattle.laws.proofs.Members.{In, here, there, and_both, in-only, in-cases, in-keep, gather_append, mem-append}
use Rattle.theorems.proofs.Counts.{Lawful}
use Rattle.source.specs.Collections.{unwrap_or, get, contains_key, insert, set_insert, last_unwrapped, minus}
use Rattle.source.specs.State.{State}
use Rattle.source.specs.Types.{Dynamic}
use Rattle.source.specs.Resolver.{Parents, RevIdx, Got, got, with_parents, set_reachable0, with_istate, with_badpaths, insert_path_parent, path_in, insert_badpath, get_parents, add_inter_state, required, Resolved, resolved, pushed_if, Deeper, match_symbol, follow_path, try_parent, cycles, for_parents, resolve_dynamic_jump_path}
use Rattle.source.proofs.Iterating.{Sized}
use Rattle.source.proofs.Mirror.{stored, get-stored, resolve-stored}
use Rattle.source.proofs.Caches.{Along, along-both, Cached, Beside, beside_trans, materialized, widened}
use Rattle.source.proofs.Small.{map-append, last-append}
use Rattle.source.proofs.Tables.{entry_of, known, was-met, bad?, found?, all-parents, Sim, bad-added, contains-found, parent-there, parent-put, Enters, enters, met-put, met-there, last-there, live?, parents-given}
use Rattle.source.specs.Shown.{to_of, jump_of}

-- the index tells of the state t, and the jumps are t's records behind those that were there
pub record Done (row : ℕ → Row) (code : List ℕ) (c : Turn) (recs : List Rec) (energy : ℕ) (t : St) (o : Option Resolved) : Type 0 where
  pub idx : RevIdx
  pub used : ℕ
  pub new : List Rec
  pub is : o ≡ resolved idx (map jump_of new) used
  pub counted : t.energy ≡ energy + used
  pub recorded : t.recs ≡ recs ++ new
  pub own_start : (x : Rec) → In x new → x.start ≡ c.start
  pub sim : Sim row code c t.recs t.met idx

pub sim-beside : {row : ℕ → Row} {code : List ℕ} {c : Turn} {recs : List Rec} {met : List Met} {r q : RevIdx} → Sim row code c recs met r → Beside row code r q → Sim row code c recs met q
sim-beside h b = record {
  cached = b.cached;
  table = λ to. ap (λ (m : List (ℕ × List (List ℕ × State))). unwrap_or [] (get eqb to m)) b.parents ∙ h.table to;
  inter = λ l x y. ap (λ (m : List (ℕ × List (State × List Sym))). known m l (stored x) y) b.istate ∙ h.inter l x y;
  bad = λ p. ap (path_in p) b.badpaths ∙ h.bad p;
  live = λ a. ap (mem a) b.reachable0 ∙ h.live a;
  along = h.along;
  short = h.short;
}

module _ (row : ℕ → Row) (code : List ℕ) (c : Turn) where
  -- nothing is recorded
  nothing : (s : St) (r : RevIdx) → Sim row code c s.recs s.met r → Done row code c s.recs s.energy s (resolved r [] 0)
  nothing s r h = record {
    idx = r;
    used = 0;
    new = [];
    is = refl;
    counted = omega arith;
    recorded = sym (append-nil s.recs);
    own_start = λ x i. elim i [ ];
    sim = h;
  }

  -- one record, x
  done-record : (s t : St) (x : Rec) (r : RevIdx) {to : Option ℕ} → to ≡ to_of x.to → t.energy ≡ s.energy → t.recs ≡ s.recs ++ x ∷ [] → x.start ≡ c.start → Sim row code c t.recs t.met r
      → Done row code c s.recs s.energy t (resolved r (record { path = x.path; to = to } ∷ []) 0)
  done-record s t x r e f g k h = record {
    idx = r;
    used = 0;
    new = x ∷ [];
    is = ap (λ (to : Option ℕ). resolved r (record { path = x.path; to = to } ∷ []) 0) e;
    counted = omega arith;
    recorded = g;
    own_start = λ y i. ap (λ (z : Rec). z.start) (in-only i) ∙ k;
    sim = h;
  }

  -- lines 264 to 272, and 305 to 313
  done-nowhere : (path : List ℕ) (s : St) (r : RevIdx) → Sim row code c s.recs s.met r
      → Done row code c s.recs s.energy (record_nowhere c path s) (pushed_if (insert_badpath path r) path none)
  unfolding record_nowhere insert_badpath if
  done-nowhere path s r h =
      subst (λ (b : Bool). Done row code c s.recs s.energy (record_nowhere c path s)
      (pushed_if (if b (record { idx = r; value = false }) (record { idx = with_badpaths (path ∷ r.badpaths) r; value = true })) path none)) (sym (h.bad path)) (go (some? (bad? path) s.recs))
    where
      x : Rec
      x = record { start = c.start; to = nowhere; path = path; energy = s.energy }

      go : (b : Bool) → Done row code c s.recs s.energy (if b s (add x (writes path s)))
          (pushed_if (if b (record { idx = r; value = false }) (record { idx = with_badpaths (path ∷ r.badpaths) r; value = true })) path none)
      go true = nothing s r h
      go false = done-record s _ x _ refl refl refl refl (bad-added row code c s.recs s.met r h x refl)

  -- lines 296 to 304
  done-found : (to : ℕ) (new : Stack) (path : List ℕ) (s : St) (r : RevIdx) → Sim row code c s.recs s.met r → Along row code path new → ¬ (length path ≡ 1)
      → mem (last_of path) c.reached || mem (last_of path) (dests s.recs) ≡ true
      → Done row code c s.recs s.energy (record_found c to new path s) (and_then (insert_path_parent to path (stored new) r) (λ g. pushed_if g path (some to)))
  unfolding record_found insert_path_parent if
  done-found to new path s r h a long live =
      rw (last-there a, h.live (last_of path) ∙ live) (go (some? (found? to path) s.recs) refl)
    where
      x : Rec
      x = record { start = c.start; to = found to new; path = path; energy = s.energy }

      entry : Parents
      entry = unwrap_or [] (get eqb to r.parents)

      reached-too : RevIdx
      reached-too = set_reachable0 (set_insert to r.reachable0) r

      tests : contains_key same path entry ≡ some? (found? to path) s.recs
      tests = contains-found row code c s.recs s.met r h to path long

      go : (b : Bool) → some? (found? to path) s.recs ≡ b
          → Done row code c s.recs s.energy (if (some? (found? to path) s.recs) s (add x (need S (in_use c s + cells new) (writes path s))))
          (and_then (if (contains_key same path entry) (got (with_parents (insert eqb to entry r.parents) reached-too) false)
          (got (with_parents (insert eqb to (insert same path (stored new) entry) r.parents) reached-too) true)) (λ g. pushed_if g path (some to)))
      go true e = rw (tests, e) (nothing s _ (parent-there row code c s.recs s.met r h to path e))
      go false e = rw (tests, e) (done-record s _ x _ refl refl refl refl (parent-put row code c s.recs s.met r h to path new a (tests ∙ e) x refl refl))

-- the recursive call, of levels whose weight is new-weight
module _ (row : ℕ → Row) (code : List ℕ) (c : Turn) (limit : ℕ) where
  abbrev Deeply : (Level → St → St) → Deeper → ℕ → Type 0
  Deeply opens calls weight =
      (l : Level) (s : St) (r : RevIdx) (left : ℕ) → Sim row code c s.recs s.met r → Along row code l.path l.state → s.energy + left ≡ limit
      → Done row code c s.recs s.energy (opens l s) (calls r l.path weight l.position (stored l.state) left)

  -- lines 280 to 314
  done-arrive : (opens : Level → St → St) (calls : Deeper) (weight : ℕ) → Deeply opens calls weight
      → (path : List ℕ) (new : Stack) (x : Sym) (s : St) (r : RevIdx) (left : ℕ) → Sim row code c s.recs s.met r → Along row code path new → ¬ (length path ≡ 1)
      → mem (last_of path) c.reached || mem (last_of path) (dests s.recs) ≡ true → s.energy + left ≡ limit
      → Done row code c s.recs s.energy (arrive c opens path new x s) (match_symbol calls path weight (stored new) (some left) r x)
  unfolding arrive match_symbol
  done-arrive opens calls weight d path new (before n) s r left h a long live e = d (record { path = path; position = n; state = new }) s r left h a e
  done-arrive opens calls weight d path new (jumpdest t) s r left h a long live e = done-found row code c t new path s r h a long live
  done-arrive opens calls weight d path new (constant v) s r left h a long live e = done-nowhere row code c path s r h
  done-arrive opens calls weight d path new (other pc) s r left h a long live e = done-nowhere row code c path s r h

  -- lines 275 to 314
  abbrev reaches : Deeper → List ℕ → ℕ → State → ℕ → Sym → Got Bool → Option Resolved
  reaches calls path weight state left x g = if (not g.value) (resolved g.idx [] 0) (match_symbol calls path weight state (some left) g.idx x)

  done-met : (opens : Level → St → St) (calls : Deeper) (weight : ℕ) → Deeply opens calls weight
      → (path : List ℕ) (new : Stack) (x : Sym) (s : St) (r : RevIdx) (left : ℕ) → Sim row code c s.recs s.met r → Along row code path new → ¬ (length path ≡ 1)
      → mem (last_of path) c.reached || mem (last_of path) (dests s.recs) ≡ true → s.energy + left ≡ limit
      → (u v : ℕ)
      → Done row code c s.recs s.energy
      (if (was-met s.met (last_of path) new x) (need S u s) (arrive c opens path new x (remember (record { last = last_of path; stack = new; symbol = x }) (need T v (need S u s)))))
      (reaches calls path weight (stored new) left x (add_inter_state (last_of path) (stored new) x r))
  unfolding if
  done-met opens calls weight d path new x s r left h a long live e u v =
      subst (λ (g : Got Bool). Done row code c s.recs s.energy (if (was-met s.met (last_of path) new x) (need S u s) kept) (reaches calls path weight (stored new) left x g))
      (sym added) (go (was-met s.met (last_of path) new x) refl)
    where
      m : Met
      m = record { last = last_of path; stack = new; symbol = x }

      kept : St
      kept = arrive c opens path new x (remember m (need T v (need S u s)))

      en : Enters r (last_of path) (stored new) x (add_inter_state (last_of path) (stored new) x r)
      en = enters (last_of path) (stored new) x r

      added : add_inter_state (last_of path) (stored new) x r ≡ record { idx = with_istate en.now r; value = not (was-met s.met (last_of path) new x) }
      added = λ i. record { idx = en.idx_is i; value = (en.value_is ∙ ap not (h.inter (last_of path) new x)) i }

      go : (b : Bool) → was-met s.met (last_of path) new x ≡ b
          → Done row code c s.recs s.energy (if b (need S u s) kept) (reaches calls path weight (stored new) left x (record { idx = with_istate en.now r; value = not b }))
      go true on = nothing row code c (need S u s) (with_istate en.now r) (met-there row code c s.recs s.met r h m en.now en.tells on)
      go false off =
          done-arrive opens calls weight d path new x (remember m (need T v (need S u s))) (with_istate en.now r) left (met-put row code c s.recs s.met r h m en.now en.tells) a long live e

-- ---- lines 226 to 314

module _ {row : ℕ → Row} (ok : Lawful row) (sized : Sized row) (code : List ℕ) where
  -- what is materialized is what was stored: the symbol is the parent's, and the state is composed
  pub record Opened (calls : Deeper) (l : Level) (weight left : ℕ) (p : Parent) (r : RevIdx) (o : Option Resolved) : Type 0 where
    pub idx : RevIdx
    pub is : o ≡ follow_path calls (l.path ++ p.path) (weight + 1) (stored (compose l.state p.stack)) (some left) idx (read p.stack l.position)
    pub beside : Beside row code r idx

  try-opened : (calls : Deeper) (l : Level) (weight left : ℕ) (p : Parent) (r : RevIdx) → Cached row code r → Along row code l.path l.state → Along row code p.path p.stack
      → Opened calls l weight left p r (try_parent row code calls l.path weight l.position (stored l.state) (some left) (entry_of p) r)
  unfolding try_parent
  try-opened calls l weight left p r c a b =
      let w = widened ok sized code 255 a l.position r c in
      let g = materialized ok sized code b (required l.position (stored l.state)) w.idx w.beside.cached in
      record {
        idx = g.idx;
        is = rw (w.is, g.is, get-stored p.stack l.position, resolve-stored l.state p.stack) refl;
        beside = beside_trans row code w.beside g.beside;
      }

  module _ (c : Turn) (limit : ℕ) where
    -- what is done with one parent of the level l
    abbrev pub Each-parent : (Parent → List ℕ → St → St) → Deeper → Level → ℕ → Type 0
    Each-parent go calls l weight =
        (p : Parent) (s : St) (r : RevIdx) (left : ℕ) → Sim row code c s.recs s.met r → Along row code p.path p.stack → live? c s.recs p ≡ true → s.energy + left ≡ limit
        → Done row code c s.recs s.energy (go p (l.path ++ p.path) s) (try_parent row code calls l.path weight l.position (stored l.state) (some left) (entry_of p) r)

    longer : {p q : List ℕ} {s t : Stack} → Along row code p s → Along row code q t → ¬ (length (p ++ q) ≡ 1)
    longer {p} {q} a b e = omega (arith, length-append p q, ap length a.path-is, ap length b.path-is)

    last-joined : (path : List ℕ) {q : List ℕ} {t : Stack} → Along row code q t → last_of (path ++ q) ≡ last_of q
    last-joined path b = rw b.path-is (last-append path b.first b.rest)

    live-joined : (recs : List Rec) (path : List ℕ) (p : Parent) → Along row code p.path p.stack → live? c recs p ≡ true
        → mem (last_of (path ++ p.path)) c.reached || mem (last_of (path ++ p.path)) (dests recs) ≡ true
    live-joined recs path p b e = rw (last-joined path b) e

    done-follow : (opens : Level → St → St) (calls : Deeper) (l : Level) (weight : ℕ) → weight < 256 → Deeply row code c limit opens calls (weight + 1) → Along row code l.path l.state
        → Each-parent (follow c opens l) calls l weight
    unfolding follow follow_path
    done-follow opens calls l weight light d a p s r left h b live e =
        let o = try-opened calls l weight left p r h.cached a b in
        let ab = along-both row code a b in
        rw (o.is, last-there ab)
        (rw (if-false (ltb 256 (weight + 1)) _ _ (le-ltb 256 (weight + 1) (omega arith)))
        (done-met row code c limit opens calls (weight + 1) d (l.path ++ p.path) (compose l.state p.stack) (read p.stack l.position) s o.idx left
        (sim-beside h o.beside) ab (longer a b) (live-joined s.recs l.path p b live) e _ _))

    done-heavy : (calls : Deeper) (l : Level) (weight : ℕ) → weight ≡ 256 → Along row code l.path l.state → Each-parent (λ p. record_nowhere c) calls l weight
    unfolding follow_path
    done-heavy calls l weight heavy a p s r left h b live e =
        let o = try-opened calls l weight left p r h.cached a b in
        rw o.is
        (rw (if-true (ltb 256 (weight + 1)) _ _ (lt-ltb 256 (weight + 1) (omega arith)))
        (done-nowhere row code c (l.path ++ p.path) s o.idx (sim-beside h o.beside)))

    -- ---- lines 208 to 316

    live_more : (recs new : List Rec) (p : Parent) → live? c recs p ≡ true → live? c (recs ++ new) p ≡ true
    live_more recs new p e =
        let a = last_of p.path in
        ap (λ (l : List ℕ). mem a c.reached || mem a l) (gather_append (λ (x : Rec). dest x.to) recs new)
        ∙ ap (λ (b : Bool). mem a c.reached || b) (mem-append a (dests recs) (dests new))
        ∙ sym (or_assoc (mem a c.reached) (mem a (dests recs)) (mem a (dests new)))
        ∙ ap (λ (b : Bool). b || mem a (dests new)) e

    same-cycles : (q path : List ℕ) → cycles q path ≡ loops q path
    same-cycles [] path = refl
    same-cycles (b ∷ []) path = refl
    same-cycles (b ∷ d ∷ more) path = refl

    -- behind the jumps and the energy of the parents before
    record Behind (recs : List Rec) (js : List Dynamic) (from : ℕ) (t : St) (o : Option Resolved) : Type 0 where
      idx : RevIdx
      used : ℕ
      new : List Rec
      is : o ≡ resolved idx (js ++ map jump_of new) used
      counted : t.energy ≡ from + used
      recorded : t.recs ≡ recs ++ new
      own_start : (x : Rec) → In x new → x.start ≡ c.start
      sim : Sim row code c t.recs t.met idx

    -- the records of one parent, and then of the others
    behind-then : {recs : List Rec} {js : List Dynamic} {from : ℕ} {t : St} (s : St) (new : List Rec) {o : Option Resolved} → s.recs ≡ recs ++ new → ((x : Rec) → In x new → x.start ≡ c.start)
        → Behind s.recs (js ++ map jump_of new) from t o → Behind recs js from t o
    behind-then {recs} {js} {from} {t} s new e f m = record {
      idx = m.idx;
      used = m.used;
      new = new ++ m.new;
      is = m.is ∙ ap (λ (l : List Dynamic). resolved m.idx l m.used) (append_assoc js (map jump_of new) (map jump_of m.new) ∙ ap (λ (l : List Dynamic). js ++ l) (sym (map-append jump_of new m.new)));
      counted = m.counted;
      recorded = m.recorded ∙ ap (λ (l : List Rec). l ++ m.new) e ∙ append_assoc recs new m.new;
      own_start = λ x i. side x (in-cases new i);
      sim = m.sim;
    }
      where
        side : (x : Rec) → In x new ⊎ In x m.new → x.start ≡ c.start
        side x (inl i) = f x i
        side x (inr i) = m.own_start x i

    for-step : (calls : Deeper) (path : List ℕ) (weight pos : ℕ) (state : State) (limit : ℕ) (p : List ℕ × State) (ps : Parents) (r : RevIdx) (js : List Dynamic) (u : ℕ)
        → for_parents row code calls path weight pos state limit (p ∷ ps) r js u
        ≡ if (ltb limit (u + 1)) (resolved r js (u + 1)) (if (cycles p.0 path) (for_parents row code calls path weight pos state limit ps r js (u + 1))
        (and_then (try_parent row code calls path weight pos state (minus limit (u + 1)) p r) (λ t. for_parents row code calls path weight pos state limit ps t.idx (js ++ t.jumps) (u + 1 + t.used))))
    unfolding for_parents
    for-step calls path weight pos state limit p ps r js u = refl

    for-nil : (calls : Deeper) (path : List ℕ) (weight pos : ℕ) (state : State) (limit : ℕ) (r : RevIdx) (js : List Dynamic) (u : ℕ)
        → for_parents row code calls path weight pos state limit [] r js u ≡ resolved r js u
    unfolding for_parents
    for-nil calls path weight pos state limit r js u = refl

    tries-nil : (go : Parent → List ℕ → St → St) (path : List ℕ) (s : St) → tries limit go path [] s ≡ s
    unfolding tries
    tries-nil go path s = refl

    tries-step : (go : Parent → List ℕ → St → St) (path : List ℕ) (p : Parent) (ps : List Parent) (s : St)
        → tries limit go path (p ∷ ps) s
        ≡ if (ltb limit (suc s.energy)) (spend s) (tries limit go path ps (if (loops p.path path) (spend s) (go p (path ++ p.path) (need P (length (path ++ p.path)) (spend s)))))
    unfolding tries
    tries-step go path p ps s = refl

    -- nothing more
    behind-none : (s : St) (js : List Dynamic) (from u : ℕ) (t : St) (r : RevIdx) → t.recs ≡ s.recs → t.energy ≡ from + u → Sim row code c t.recs t.met r → Behind s.recs js from t (resolved r js u)
    behind-none s js from u t r e f h = record {
      idx = r;
      used = u;
      new = [];
      is = ap (λ (l : List Dynamic). resolved r l u) (sym (append-nil js));
      counted = f;
      recorded = e ∙ sym (append-nil s.recs);
      own_start = λ x i. elim i [ ];
      sim = h;
    }

    abbrev Good : List Rec → List Parent → Type 0
    Good recs ps = (p : Parent) → In p ps → Along row code p.path p.stack × (live? c recs p ≡ true)

    good_more : (recs : List Rec) {ps : List Parent} (new : List Rec) → Good recs ps → Good (recs ++ new) ps
    good_more recs new g p i = ((g p i).0, live_more recs new p (g p i).1)

    module _ (go : Parent → List ℕ → St → St) (calls : Deeper) (l : Level) (weight : ℕ) (each : Each-parent go calls l weight) (room from : ℕ) (e : from + room ≡ limit) where
      abbrev called : List Parent → RevIdx → List Dynamic → ℕ → Option Resolved
      called ps r js u = for_parents row code calls l.path weight l.position (stored l.state) room (map entry_of ps) r js u

      abbrev Rest : List Parent → Type 0
      Rest ps = (s : St) (r : RevIdx) (js : List Dynamic) (u : ℕ) → Sim row code c s.recs s.met r → Good s.recs ps → s.energy ≡ from + u
          → Behind s.recs js from (tries limit go l.path ps s) (called ps r js u)

      module _ (p : Parent) (ps : List Parent) (rest : Rest ps) (s : St) (r : RevIdx) (js : List Dynamic) (u : ℕ) (h : Sim row code c s.recs s.met r) (good : Good s.recs (p ∷ ps)) (f : s.energy ≡ from + u) where
        asked : St
        asked = need P (length (l.path ++ p.path)) (spend s)

        abbrev tried : Option Resolved
        tried = and_then (try_parent row code calls l.path weight l.position (stored l.state) (minus room (u + 1)) (entry_of p) r) (λ t. called ps t.idx (js ++ t.jumps) (u + 1 + t.used))

        -- line 226 on, and then the other parents
        on-tried : ltb room (u + 1) ≡ false → Behind s.recs js from (tries limit go l.path ps (go p (l.path ++ p.path) asked)) tried
        unfolding asked
        on-tried off =
            let k = ltb-false room (u + 1) off in
            let left : minus room (u + 1) ≡ some (room - (u + 1)) = if-true _ _ _ (le-leb (u + 1) room k) in
            let d = each p asked r (room - (u + 1)) h (good p here).0 (good p here).1 (omega arith) in
            let next = go p (l.path ++ p.path) asked in
            behind-then next d.new d.recorded d.own_start
            (rw (left, d.is)
            (rest next d.idx (js ++ map jump_of d.new) (u + 1 + d.used) d.sim
            (rw d.recorded (good_more s.recs d.new (λ q i. good q (there i)))) (omega (arith, d.counted))))

        on-parent : (b : Bool) → ltb room (u + 1) ≡ b → (k : Bool) → loops p.path l.path ≡ k
            → Behind s.recs js from
            (if (ltb limit (suc s.energy)) (spend s) (tries limit go l.path ps (if (loops p.path l.path) (spend s) (go p (l.path ++ p.path) asked))))
            (if (ltb room (u + 1)) (resolved r js (u + 1)) (if (cycles p.path l.path) (called ps r js (u + 1)) tried))
        on-parent true over k j =
            let q : ltb limit (suc s.energy) ≡ true = lt-ltb limit (suc s.energy) (omega (arith, ltb-true room (u + 1) over)) in
            rw (if-true (ltb limit (suc s.energy)) _ _ q, if-true (ltb room (u + 1)) _ _ over)
            (behind-none s js from (u + 1) (spend s) r refl (omega arith) h)
        on-parent false within true j =
            let q : ltb limit (suc s.energy) ≡ false = le-ltb limit (suc s.energy) (omega (arith, ltb-false room (u + 1) within)) in
            rw (if-false (ltb limit (suc s.energy)) _ _ q, if-false (ltb room (u + 1)) _ _ within, if-true (loops p.path l.path) _ _ j, if-true (cycles p.path l.path) _ _ (same-cycles p.path l.path ∙ j))
            (rest (spend s) r js (u + 1) h (λ q i. good q (there i)) (omega arith))
        on-parent false within false j =
            let q : ltb limit (suc s.energy) ≡ false = le-ltb limit (suc s.energy) (omega (arith, ltb-false room (u + 1) within)) in
            rw (if-false (ltb limit (suc s.energy)) _ _ q, if-false (ltb room (u + 1)) _ _ within, if-false (loops p.path l.path) _ _ j, if-false (cycles p.path l.path) _ _ (same-cycles p.path l.path ∙ j))
            (on-tried within)

      no-parents : Rest []
      no-parents s r js u h good f =
          rw (tries-nil go l.path s, for-nil calls l.path weight l.position (stored l.state) room r js u) (behind-none s js from u s r refl f h)

      one_parent : (p : Parent) (ps : List Parent) → Rest ps → Rest (p ∷ ps)
      unfolding asked
      one_parent p ps rest s r js u h good f =
          rw (tries-step go l.path p ps s, for-step calls l.path weight l.position (stored l.state) room (entry_of p) (map entry_of ps) r js u)
          (on-parent p ps rest s r js u h good f (ltb room (u + 1)) refl (loops p.path l.path) refl)

      done-tries : (ps : List Parent) → Rest ps
      done-tries [] = no-parents
      done-tries (p ∷ ps) = one_parent p ps (done-tries ps)

    -- ---- lines 188 to 317

    path-step : (n : ℕ) (r : RevIdx) (path : List ℕ) (weight pos : ℕ) (state : State) (room : ℕ)
        → resolve_dynamic_jump_path row code (suc n) r path weight pos state room
        ≡ if (leb weight 256) (and_then (last_unwrapped path) (λ current. and_then (get_parents current r) (λ ps. for_parents row code (resolve_dynamic_jump_path row code n) path weight pos state room ps r [] 0))) none
    unfolding resolve_dynamic_jump_path
    path-step n r path weight pos state room = refl

    -- the level's parents, tried one after the other
    opened : (go : Parent → List ℕ → St → St) (n : ℕ) (l : Level) (weight : ℕ) → weight ≤ 256 → Each-parent go (resolve_dynamic_jump_path row code n) l weight
        → (s : St) (r : RevIdx) (room : ℕ) → Sim row code c s.recs s.met r → Along row code l.path l.state → s.energy + room ≡ limit
        → Done row code c s.recs s.energy (tries limit go l.path (parents c (last_of l.path) s) s) (resolve_dynamic_jump_path row code (suc n) r l.path weight l.position (stored l.state) room)
    unfolding parents
    opened go n l weight w each s r room h a e =
        let current = last_of l.path in
        let ps = keep (λ (p : Parent). eqb current p.to && live? c s.recs p) (all-parents c s.recs) in
        let good : Good s.recs ps =
        λ p i. let k = in-keep (λ (p : Parent). eqb current p.to && live? c s.recs p) (all-parents c s.recs) i in
        (h.along p k.1, (and_both (eqb current p.to) (live? c s.recs p) k.0).1) in
        let m = done-tries go (resolve_dynamic_jump_path row code n) l weight each room s.energy e ps s r [] 0 h good (omega arith) in
        record {
          idx = m.idx;
          used = m.used;
          new = m.new;
          is = path-step n r l.path weight l.position (stored l.state) room ∙ if-true _ _ _ (le-leb weight 256 w)
              ∙ rw (last-there a, parents-given row code c s.recs s.met r h current) m.is;
          counted = m.counted;
          recorded = m.recorded;
          own_start = m.own_start;
          sim = m.sim;
        }

    level-zero : (l : Level) (s : St) → level limit c zero l s ≡ tries limit (λ p. record_nowhere c) l.path (parents c (last_of l.path) s) s
    unfolding level
    level-zero l s = refl

    level-suc : (w : ℕ) (l : Level) (s : St) → level limit c (suc w) l s ≡ tries limit (follow c (level limit c w) l) l.path (parents c (last_of l.path) s) s
    unfolding level
    level-suc w l s = refl

    abbrev At-weight : ℕ → Type 0
    At-weight w = (weight : ℕ) → weight + w ≡ 256 → Deeply row code c limit (level limit c w) (resolve_dynamic_jump_path row code (suc w)) weight

    heaviest : At-weight zero
    heaviest weight e l s r left h a f =
        rw (level-zero l s) (opened (λ p. record_nowhere c) 0 l weight (omega arith) (done-heavy (resolve_dynamic_jump_path row code 0) l weight (omega arith) a) s r left h a f)

    lighter : (w : ℕ) → At-weight w → At-weight (suc w)
    lighter w deeper weight e l s r left h a f =
        rw (level-suc w l s)
        (opened (follow c (level limit c w) l) (suc w) l weight (omega arith)
        (done-follow (level limit c w) (resolve_dynamic_jump_path row code (suc w)) l weight (omega arith) (deeper (weight + 1) (omega arith)) a) s r left h a f)

    -- A call of `resolve_dynamic_jump_path` with so much energy left, at the level's path, weight, position and state, is the level.
    pub done-level : (w : ℕ) → At-weight w
    done-level zero = heaviest
    done-level (suc w) = lighter w (done-level w)
