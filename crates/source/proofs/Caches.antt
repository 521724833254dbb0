-- resolver.rs, lines 48 to 71 and 148 to 183: where every value in the caches `states`, `deep_states` and `replayed_paths` is the right one (`Cached`), what a
-- block is given is its own stack, and what a path is given is what its blocks compose to. Nothing panics, and the caches stay right (`Beside`); in a run they
-- begin so (`cached0` in Same). Assumes nothing.
use Prim.Native.Nat.{ℕ, zero, suc, ◌+◌}
use native.Mathlib.Omega.{arith}
use native.Mathlib.Nat.{le_refl, add-zero, zero-add}
use mathlib.Core.Path.{◌≡◌, refl, sym, ap, ap₂, ◌∙◌}
use mathlib.Core.Bool.{Bool}
use mathlib.Core.Option.{Option, none, some}
use mathlib.Core.List.{List, [], ◌∷◌, ◌++◌, reverse}
use lib.Dec.{eqb, ltb}
use lib.ListN.{length, drop}
use borrow.Author.Tests.{le-leb, eqb-true}
use Rattle.spec.specs.Opcodes.{Row}
use Rattle.spec.specs.Walk.{Ins, walk}
use Rattle.spec.specs.Stacks.{Sym, before, Stack, entry, read, span, own, compose}
use Rattle.laws.proofs.Branch.{both, if-true, and_then}
use Rattle.theorems.proofs.Counts.{Lawful}
use Rattle.theorems.proofs.Walking.{walks_from}
use Rattle.source.proofs.Stored as Top
use Rattle.theorems.proofs.Trimming.{identity}
use Rattle.theorems.proofs.Composing.{compose-assoc}
use Rattle.source.proofs.Exec.{plainly, exec-stored, exec-deep}
use Rattle.source.specs.Collections.{match_option, get, insert}
use Rattle.source.specs.State.{State, new, counting, with_identity, ended, exec, exec_code}
use Rattle.source.specs.Resolver.{RevIdx, Got, got, same_pair, same_replay, get_state, get_state_with_depth, with_deep_states, with_replayed_paths, insert_state, replays, replay, materialize_path_state, required, Widened, widen}
use Rattle.source.proofs.Maps.{Tests, number-test, pair-test, replay-test, Holds, holds-inserted}
use Rattle.source.proofs.Iterating.{Sized, iterate-walks}
use Rattle.source.proofs.Mirror.{stored, flipped, resolve-stored, exec-mirrored}

-- ---- a block's own stack

module _ (row : ℕ → Row) (code : List ℕ) where
  abbrev pub own_of : ℕ → Stack
  own_of b = (own (plainly row) code b).stack

  -- what a path's blocks compose to, each with the next
  unfoldable pub composed : Stack → List ℕ → Stack
  composed s [] = s
  composed s (b ∷ bs) = composed (compose s (own_of b)) bs

  abbrev pub whole : List ℕ → Stack
  whole [] = entry
  whole (b ∷ bs) = composed (own_of b) bs

  composed-assoc : (s t : Stack) (bs : List ℕ) → compose s (composed t bs) ≡ composed (compose s t) bs
  unfolding composed
  composed-assoc s t [] = refl
  composed-assoc s t (b ∷ bs) = composed-assoc s (compose t (own_of b)) bs ∙ ap (λ (u : Stack). composed u bs) (sym (compose-assoc s t (own_of b)))

  composed-append : (s : Stack) (cs bs : List ℕ) → composed s (cs ++ bs) ≡ composed (composed s cs) bs
  unfolding composed
  composed-append s [] bs = refl
  composed-append s (c ∷ cs) bs = composed-append (compose s (own_of c)) cs bs

  -- the state of a path, which has a first block
  pub record Along (path : List ℕ) (s : Stack) : Type 0 where
    pub first : ℕ
    pub rest : List ℕ
    pub path-is : path ≡ first ∷ rest
    pub stack_is : s ≡ whole path

  pub along_one : (b : ℕ) → Along (b ∷ []) (own_of b)
  unfolding composed
  along_one b = record { first = b; rest = []; path-is = refl; stack_is = refl }

  whole_append : (b c : ℕ) (bs cs : List ℕ) → compose (whole (b ∷ bs)) (whole (c ∷ cs)) ≡ whole (b ∷ bs ++ c ∷ cs)
  unfolding composed
  whole_append b c bs cs = composed-assoc (composed (own_of b) bs) (own_of c) cs ∙ sym (composed-append (own_of b) bs (c ∷ cs))

  pub along-both : {p q : List ℕ} {s t : Stack} → Along p s → Along q t → Along (p ++ q) (compose s t)
  along-both {p} {q} h k = record {
    first = h.first;
    rest = h.rest ++ k.first ∷ k.rest;
    path-is = rw (h.path-is, k.path-is) refl;
    stack_is = rw (h.stack_is, k.stack_is, h.path-is, k.path-is) (whole_append h.first k.first h.rest k.rest);
  }

  -- ---- the caches

  pub record Cached (r : RevIdx) : Type 0 where
    pub shallow : Holds number-test (λ (b : ℕ) (x : State). x ≡ stored (own_of b)) r.states
    pub deep : Holds pair-test (λ (k : ℕ × ℕ) (x : State). x ≡ stored (own_of k.0)) r.deep_states
    pub replayed : Holds replay-test (λ (k : List ℕ × ℕ) (x : State). x ≡ stored (whole k.0)) r.replayed_paths

  -- the caches may have grown; nothing else has changed
  pub record Beside (r q : RevIdx) : Type 0 where
    pub cached : Cached q
    pub parents : q.parents ≡ r.parents
    pub istate : q.istate ≡ r.istate
    pub badpaths : q.badpaths ≡ r.badpaths
    pub reachable0 : q.reachable0 ≡ r.reachable0

  pub beside-itself : {r : RevIdx} → Cached r → Beside r r
  beside-itself c = record { cached = c; parents = refl; istate = refl; badpaths = refl; reachable0 = refl }

  pub beside_trans : {r q p : RevIdx} → Beside r q → Beside q p → Beside r p
  beside_trans a b = record {
    cached = b.cached;
    parents = b.parents ∙ a.parents;
    istate = b.istate ∙ a.istate;
    badpaths = b.badpaths ∙ a.badpaths;
    reachable0 = b.reachable0 ∙ a.reachable0;
  }

  -- no panic, and this state is handed back
  pub record Gives (r : RevIdx) (x : State) (o : Option (Got State)) : Type 0 where
    pub idx : RevIdx
    pub is : o ≡ got idx x
    pub beside : Beside r idx

  gives-here : {r : RevIdx} {x y : State} → Cached r → y ≡ x → Gives r x (got r y)
  gives-here {r} c e = record { idx = r; is = ap (got r) e; beside = beside-itself c }

-- `if let Some(v) = map.get(..)`: what holds of every value, or the other branch
looked : {K W B : Type 0} {same_key : K → K → Bool} (t : Tests same_key) (F : B → Type 0) (good : K → W → Type 0) (m : List (K × W)) (k : K) {f : W → B} {d : B}
    → Holds t good m → ((v : W) → good k v → F (f v)) → F d → F (match_option (get same_key k m) f d)
looked {W} {same_key} t F good m k {f} {d} h g e = split (get same_key k m) refl
  where
    split : (o : Option W) → get same_key k m ≡ o → F (match_option o f d)
    split none q = e
    split (some v) q = g v (h k v q)

counting-span : (b n : ℕ) → counting b (suc n) ≡ span entry b n ++ before (b + n) ∷ []
unfolding read
counting-span b zero = ap (λ (k : ℕ). before k ∷ []) (sym (add-zero b))
counting-span b (suc n) =
    let e : suc b + n ≡ b + suc n = omega arith in
    let z : b ≡ 0 + b = omega arith in
    ap {B = List Sym} (λ (xs : List Sym). before b ∷ xs) (counting-span (suc b) n) ∙ ap₂ {C = List Sym} (λ (k m : ℕ). before k ∷ span entry (suc b) n ++ before m ∷ []) z e

identity-is : (depth : ℕ) → with_identity depth ≡ stored (identity depth)
unfolding identity
identity-is depth = let e : counting 0 (suc depth) ≡ Top.stored (identity depth) = counting-span 0 depth ∙ rw zero-add refl in ap reverse e

module _ {row : ℕ → Row} (ok : Lawful row) (sized : Sized row) (code : List ℕ) where
  -- `exec` of a block from `State::new()`
  pub exec-own : (b : ℕ) → exec_code row code b none new ≡ ended (stored (own_of row code b)) (own (plainly row) code b).goes
  exec-own b =
      ap (λ (o : Option (List Ins)). and_then o (λ is. exec row code b is new)) (iterate-walks sized code b)
      ∙ exec-mirrored row code b (walk (drop b code) b 0) (Top.stored entry) ∙ ap flipped (exec-stored ok b (walks_from code b) entry)

  -- and from `State::with_identity(depth)`
  pub exec-with-depth : (b depth : ℕ) → exec_code row code b none (with_identity depth) ≡ ended (stored (own_of row code b)) (own (plainly row) code b).goes
  exec-with-depth b depth =
      ap (λ (x : State). exec_code row code b none x) (identity-is depth)
      ∙ ap (λ (o : Option (List Ins)). and_then o (λ is. exec row code b is (stored (identity depth)))) (iterate-walks sized code b)
      ∙ exec-mirrored row code b (walk (drop b code) b 0) (Top.stored (identity depth)) ∙ ap flipped (exec-deep ok b (walks_from code b) depth ∙ exec-stored ok b (walks_from code b) entry)

  -- ---- lines 48 to 71

  pub state-given : (b : ℕ) (r : RevIdx) → Cached row code r → Gives row code r (stored (own_of row code b)) (get_state row code b r)
  unfolding get_state
  state-given b r c =
      looked number-test (Gives row code r (stored (own_of row code b))) (λ (k : ℕ) (x : State). x ≡ stored (own_of row code k)) r.states b c.shallow
      (λ v e. gives-here row code c e)
      (rw (exec-own b)
      (record {
        idx = insert_state b (stored (own_of row code b)) r;
        is = refl;
        beside = record {
          cached = record {
            shallow = holds-inserted number-test (λ (k : ℕ) (x : State). x ≡ stored (own_of row code k)) b (stored (own_of row code b)) r.states c.shallow refl;
            deep = c.deep;
            replayed = c.replayed;
          };
          parents = refl;
          istate = refl;
          badpaths = refl;
          reachable0 = refl;
        };
      }))

  pub depth-given : (b depth : ℕ) (r : RevIdx) → Cached row code r → Gives row code r (stored (own_of row code b)) (get_state_with_depth row code b depth r)
  unfolding get_state_with_depth
  depth-given b depth r c =
      both (Gives row code r (stored (own_of row code b))) (eqb depth 0) (λ _. state-given b r c)
      (λ _.
      looked pair-test (Gives row code r (stored (own_of row code b))) (λ (k : ℕ × ℕ) (x : State). x ≡ stored (own_of row code k.0)) r.deep_states (b, depth) c.deep
      (λ v e. gives-here row code c e)
      (rw (exec-with-depth b depth)
      (record {
        idx = with_deep_states (insert same_pair (b, depth) (stored (own_of row code b)) r.deep_states) r;
        is = refl;
        beside = record {
          cached = record {
            shallow = c.shallow;
            deep = holds-inserted pair-test (λ (k : ℕ × ℕ) (x : State). x ≡ stored (own_of row code k.0)) (b, depth) (stored (own_of row code b)) r.deep_states c.deep refl;
            replayed = c.replayed;
          };
          parents = refl;
          istate = refl;
          badpaths = refl;
          reachable0 = refl;
        };
      })))

  -- ---- lines 171 to 183

  -- one call after another
  gives_then : {r : RevIdx} {x y : State} {o : Option (Got State)} (k : Got State → Option (Got State)) → Gives row code r x o
      → ((q : RevIdx) → Beside row code r q → Gives row code q y (k (record { idx = q; value = x }))) → Gives row code r y (and_then o k)
  gives_then {r} {x} {y} {o} k g on =
      let h = on g.idx g.beside in
      record { idx = h.idx; is = ap (λ (p : Option (Got State)). and_then p k) g.is ∙ h.is; beside = beside_trans row code g.beside h.beside }

  replays-given : (depth : ℕ) (bs : List ℕ) (s : Stack) (r : RevIdx) → Cached row code r → Gives row code r (stored (composed row code s bs)) (replays row code depth bs (stored s) r)
  unfolding replays composed
  replays-given depth [] s r c = gives-here row code c refl
  replays-given depth (b ∷ bs) s r c =
      gives_then _ (depth-given b _ r c)
      (λ q h. rw (resolve-stored s (own_of row code b)) (replays-given depth bs (compose s (own_of row code b)) q h.cached))

  replay-given : (depth b : ℕ) (bs : List ℕ) (r : RevIdx) → Cached row code r → Gives row code r (stored (whole row code (b ∷ bs))) (replay row code depth (b ∷ bs) r)
  replay-given depth b bs r c =
      gives_then _ (depth-given b depth r c)
      (λ q h.
      gives_then _ (replays-given depth bs (own_of row code b) q h.cached)
      (λ p k.
      record {
        idx = with_replayed_paths (insert same_replay (b ∷ bs, depth) (stored (whole row code (b ∷ bs))) p.replayed_paths) p;
        is = refl;
        beside = record {
          cached = record {
            shallow = k.cached.shallow;
            deep = k.cached.deep;
            replayed = holds-inserted replay-test (λ (k : List ℕ × ℕ) (x : State). x ≡ stored (whole row code k.0)) (b ∷ bs, depth) (stored (whole row code (b ∷ bs))) p.replayed_paths k.cached.replayed refl;
          };
          parents = refl;
          istate = refl;
          badpaths = refl;
          reachable0 = refl;
        };
      }))

  several-given : (depth b : ℕ) (bs : List ℕ) (r : RevIdx) → Cached row code r
      → Gives row code r (stored (whole row code (b ∷ bs))) (match_option (get same_replay (b ∷ bs, depth) r.replayed_paths) (λ st. got r st) (replay row code depth (b ∷ bs) r))
  several-given depth b bs r c =
      looked replay-test (Gives row code r (stored (whole row code (b ∷ bs)))) (λ (k : List ℕ × ℕ) (x : State). x ≡ stored (whole row code k.0)) r.replayed_paths (b ∷ bs, depth) c.replayed
      (λ v e. gives-here row code c e) (replay-given depth b bs r c)

  one-given : (depth b : ℕ) (bs : List ℕ) (r : RevIdx) → Cached row code r → length (b ∷ bs) ≡ 1
      → Gives row code r (stored (whole row code (b ∷ bs))) (get_state_with_depth row code b depth r)
  unfolding composed
  one-given depth b [] r c e = depth-given b depth r c
  one-given depth b (d ∷ bs) r c e = absurd (omega arith)

  path-given : (b : ℕ) (bs : List ℕ) (depth : ℕ) (r : RevIdx) → Cached row code r
      → Gives row code r (stored (whole row code (b ∷ bs))) (materialize_path_state row code (b ∷ bs) (stored (whole row code (b ∷ bs))) depth r)
  unfolding materialize_path_state
  path-given b bs depth r c =
      both (Gives row code r (stored (whole row code (b ∷ bs)))) (ltb depth (length (stored (whole row code (b ∷ bs))))) (λ _. gives-here row code c refl)
      (λ _. both (Gives row code r (stored (whole row code (b ∷ bs)))) (eqb (length (b ∷ bs)) 1) (λ on. one-given depth b bs r c (eqb-true _ _ on)) (λ _. several-given depth b bs r c))

  -- Lines 148 to 183: a path's state as it is stored is what is handed back, whatever depth is asked for.
  pub materialized : {path : List ℕ} {s : Stack} → Along row code path s → (depth : ℕ) (r : RevIdx) → Cached row code r
      → Gives row code r (stored s) (materialize_path_state row code path (stored s) depth r)
  materialized {path} {s} h depth r c = rw (h.stack_is, h.path-is) (path-given h.first h.rest depth r c)

  -- ---- lines 231 to 248

  pub record Widens (r : RevIdx) (x : State) (depth : ℕ) (o : Option Widened) : Type 0 where
    pub idx : RevIdx
    pub is : o ≡ some (record { idx = idx; current_state = x; required_depth = depth })
    pub beside : Beside row code r idx

  -- The loop ends at its first turn.
  pub widened : (n : ℕ) {path : List ℕ} {s : Stack} → Along row code path s → (pos : ℕ) (r : RevIdx) → Cached row code r
      → Widens r (stored s) (required pos (stored s)) (widen row code (suc n) path pos (stored s) (required pos (stored s)) r)
  unfolding widen
  widened n {path} {s} h pos r c =
      let g = materialized h (required pos (stored s)) r c in
      rw g.is
      (record { idx = g.idx; is = if-true _ _ _ (le-leb _ _ (le_refl (required pos (stored s)))); beside = g.beside })
