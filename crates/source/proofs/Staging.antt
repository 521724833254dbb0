-- resolver.rs, lines 346 to 394: the first stage, and the direct parents. Assumes nothing.
use Prim.Native.Nat.{ℕ, suc, ◌<◌, ◌≤◌}
use native.Mathlib.Omega.{arith}
use mathlib.Core.Path.{◌≡◌, refl, sym, ap, subst, ◌∙◌}
use mathlib.Core.Logic.{◌⊎◌, inl, inr}
use mathlib.Core.Bool.{Bool, true, false, not}
use mathlib.Core.Option.{Option, none, some}
use mathlib.Core.List.{List, [], ◌∷◌, ◌++◌, map, append_assoc, append-nil}
use lib.Dec.{eqb}
use borrow.Author.Tests.{eqb-true, eqb-false, eq-eqb}
use Rattle.spec.specs.Lists.{if, same}
use Rattle.spec.specs.Opcodes.{Row}
use Rattle.spec.specs.Walk.{Ins}
use Rattle.spec.specs.Blocks.{Kind, terminate, jump, jumpi, dynamic_jump, dynamic_jumpi, Block, block}
use Rattle.spec.specs.Stacks.{Sym, before, constant, jumpdest, other, Stack, Ran, run, own}
use Rattle.spec.specs.Search.{Node, node, nodes, settled, Taker, takes, takers, sides, Parent, parent, direct, Rec}
use Rattle.laws.proofs.Branch.{if-true, if-false, and_then}
use Rattle.laws.proofs.Members.{In, here, there, in-cases, in-keep, in-only, in_map}
use Rattle.laws.proofs.Lists.{Rising, one_more}
use Rattle.theorems.proofs.Counts.{Lawful}
use Rattle.source.proofs.Exec.{plainly}
use Rattle.source.specs.Collections.{unwrap_or, get, contains_key, insert}
use Rattle.source.specs.State.{State, new, Ended, exec_code}
use Rattle.source.specs.Types.{BlockType, RustBlock, Blocks, with_type}
use Rattle.source.specs.Shown.{type_of, shown}
use Rattle.source.specs.Resolver.{Parents, RevIdx, Got, insert_state, get_state, insert_direct_parent, Staged, staged, stage_of, is_dynamic, first_stage, insert_sides, direct_parents}
use Rattle.source.proofs.Maps.{number-test, path-test, holds-inserted, get-inserted, get_other}
use Rattle.source.proofs.Iterating.{Sized}
use Rattle.source.proofs.Mirror.{stored}
use Rattle.source.proofs.Caches.{own_of, Cached, Beside, beside-itself, beside_trans, exec-own, state-given}
use Rattle.source.proofs.Small.{keep_append, map-append}
use Rattle.source.proofs.Tables.{entry_of, at_block, contains-entries, none-some, insert-new}
use Rattle.source.proofs.Turning.{Turns, turns_jump, turns_jumpi, node-starts}
use Rattle.source.proofs.Rounding.{positions}

-- ---- lines 346 to 372

abbrev ran : Stack → Option Sym → Ran
ran s g = record { stack = s; goes = g }

stage-same : (i s e : ℕ) (x : Stack) {k : Kind} → Turns k → (g : Option Sym)
    → stage_of (shown (block i s e k) []).1 g ≡ some (type_of (settled g k) [], positions (takes (node (block i s e k) (ran x g)) (settled g k)))
stage-same i s e x turns_jump none = refl
stage-same i s e x turns_jump (some (before p)) = refl
stage-same i s e x turns_jump (some (constant v)) = refl
stage-same i s e x turns_jump (some (jumpdest t)) = refl
stage-same i s e x turns_jump (some (other pc)) = refl
stage-same i s e x turns_jumpi none = refl
stage-same i s e x turns_jumpi (some (before p)) = refl
stage-same i s e x turns_jumpi (some (constant v)) = refl
stage-same i s e x turns_jumpi (some (jumpdest t)) = refl
stage-same i s e x turns_jumpi (some (other pc)) = refl

-- a block whose jump is static, or that has none
data Static : Kind → Type 0 where
  ends : {b : Bool} → Static (terminate b)
  jumps : {t : ℕ} → Static (jump t)
  branches : {t f : ℕ} → Static (jumpi t f)

by_kind : (k : Kind) → Static k ⊎ Turns k
by_kind (terminate b) = inl ends
by_kind (jump t) = inl jumps
by_kind (jumpi t f) = inl branches
by_kind dynamic_jump = inr turns_jump
by_kind (dynamic_jumpi f) = inr turns_jumpi

static-dynamic : {k : Kind} → Static k → (es : List Rec) → is_dynamic (type_of k es) ≡ false
static-dynamic ends es = refl
static-dynamic jumps es = refl
static-dynamic branches es = refl

turns-dynamic : {k : Kind} → Turns k → (es : List Rec) → is_dynamic (type_of k es) ≡ true
turns-dynamic turns_jump es = refl
turns-dynamic turns_jumpi es = refl

static-settled : {k : Kind} → Static k → (g : Option Sym) → settled g k ≡ k
static-settled ends none = refl
static-settled ends (some (before p)) = refl
static-settled ends (some (constant v)) = refl
static-settled ends (some (jumpdest t)) = refl
static-settled ends (some (other pc)) = refl
static-settled jumps none = refl
static-settled jumps (some (before p)) = refl
static-settled jumps (some (constant v)) = refl
static-settled jumps (some (jumpdest t)) = refl
static-settled jumps (some (other pc)) = refl
static-settled branches none = refl
static-settled branches (some (before p)) = refl
static-settled branches (some (constant v)) = refl
static-settled branches (some (jumpdest t)) = refl
static-settled branches (some (other pc)) = refl

static-takes : {k : Kind} → Static k → (n : Node) → takes n k ≡ []
static-takes ends n = refl
static-takes jumps n = refl
static-takes branches n = refl

stage-step : (row : ℕ → Row) (code : List ℕ) (e : ℕ × RustBlock) (es : Blocks) (pos : List (ℕ × ℕ)) (r : RevIdx)
    → first_stage row code (e ∷ es) pos r
    ≡ if (not (is_dynamic e.1.btype)) (and_then (first_stage row code es pos r) (λ s. staged (e ∷ s.blocks) s.stack_pos s.idx))
    (and_then (exec_code row code e.1.start none new) (λ o.
    and_then (stage_of e.1 o.symbol) (λ t.
    and_then (first_stage row code es (pos ++ t.1) (insert_state e.1.start o.stack r)) (λ s.
    staged ((e.0, with_type t.0 e.1) ∷ s.blocks) s.stack_pos s.idx))))
unfolding first_stage
stage-step row code e es pos r = refl

-- the nodes' blocks, with no entries yet
abbrev pub bare-blocks : List Node → Blocks
bare-blocks ns = map (λ (n : Node). shown n.block []) ns

module _ {row : ℕ → Row} (ok : Lawful row) (sized : Sized row) (code : List ℕ) (is : List Ins) where
  -- no panic: the nodes' blocks, and the takers' positions
  pub record Settles (ns : List Node) (pos : List (ℕ × ℕ)) (r : RevIdx) (o : Option Staged) : Type 0 where
    pub idx : RevIdx
    pub is-staged : o ≡ staged (bare-blocks ns) (pos ++ positions (takers ns)) idx
    pub beside : Beside row code r idx

  abbrev node_of : Block → Node
  node_of b = node b (run (plainly row) code is b.start)

  map-positions : (ts us : List Taker) → positions (ts ++ us) ≡ positions ts ++ positions us
  map-positions [] us = refl
  map-positions (t ∷ ts) us = ap {B = List (ℕ × ℕ)} (λ (l : List (ℕ × ℕ)). (t.start, t.position) ∷ l) (map-positions ts us)

  -- one block, and the others
  settle-on : (n : Node) (ns : List Node) (pos : List (ℕ × ℕ)) (r q : RevIdx) {o : Option Staged} → Beside row code r q
      → Settles ns (pos ++ positions (takes n n.block.kind)) q o
      → Settles (n ∷ ns) pos r (and_then o (λ s. staged (shown n.block [] ∷ s.blocks) s.stack_pos s.idx))
  settle-on n ns pos r q b g = record {
    idx = g.idx;
    is-staged =
        ap (λ (x : Option Staged). and_then x (λ s. staged (shown n.block [] ∷ s.blocks) s.stack_pos s.idx)) g.is-staged
        ∙ ap (λ (l : List (ℕ × ℕ)). staged (bare-blocks (n ∷ ns)) l g.idx)
        (append_assoc pos (positions (takes n n.block.kind)) (positions (takers ns)) ∙ ap (λ (l : List (ℕ × ℕ)). pos ++ l) (sym (map-positions (takes n n.block.kind) (takers ns))));
    beside = beside_trans row code b g.beside;
  }

  inserted : (b : ℕ) (r : RevIdx) → Cached row code r → Beside row code r (insert_state b (stored (own_of row code b)) r)
  inserted b r c = record {
    cached = record {
      shallow = holds-inserted number-test (λ (k : ℕ) (x : State). x ≡ stored (own_of row code k)) b (stored (own_of row code b)) r.states c.shallow refl;
      deep = c.deep;
      replayed = c.replayed;
    };
    parents = refl;
    istate = refl;
    badpaths = refl;
    reachable0 = refl;
  }

  module _ (b : Block) (afresh : run (plainly row) code is b.start ≡ own (plainly row) code b.start) (es : Blocks) (pos : List (ℕ × ℕ)) (r : RevIdx) where
    abbrev n : Node
    n = node_of b

    abbrev goes : Option Sym
    goes = (run (plainly row) code is b.start).goes

    abbrev on : RevIdx → Option Staged
    on q = and_then (first_stage row code es (pos ++ positions (takes n n.block.kind)) q) (λ s. staged (shown n.block [] ∷ s.blocks) s.stack_pos s.idx)

    static-on : Static b.kind → on r ≡ first_stage row code (shown b [] ∷ es) pos r
    static-on st =
        let e : n.block.kind ≡ b.kind = static-settled st goes in
        let f : takes n n.block.kind ≡ [] = ap (takes n) e ∙ static-takes st n in
        ap (λ (ts : List Taker). and_then (first_stage row code es (pos ++ positions ts) r) (λ s. staged (shown n.block [] ∷ s.blocks) s.stack_pos s.idx)) f
        ∙ ap (λ (p : List (ℕ × ℕ)). and_then (first_stage row code es p r) (λ s. staged (shown n.block [] ∷ s.blocks) s.stack_pos s.idx)) (append-nil pos)
        ∙ ap (λ (k : Kind). and_then (first_stage row code es pos r) (λ s. staged (shown (block b.id b.start b.end k) [] ∷ s.blocks) s.stack_pos s.idx)) e
        ∙ sym (stage-step row code (shown b []) es pos r ∙ if-true _ _ _ (ap not (static-dynamic st [])))

    turns-on : Turns b.kind → on (insert_state b.start (stored (own_of row code b.start)) r) ≡ first_stage row code (shown b [] ∷ es) pos r
    turns-on t =
        sym (stage-step row code (shown b []) es pos r ∙ if-false _ _ _ (ap not (turns-dynamic t []))
        ∙ ap (λ (x : Option Ended). and_then x (λ o. and_then (stage_of (shown b []).1 o.symbol) (λ t.
        and_then (first_stage row code es (pos ++ t.1) (insert_state b.start o.stack r)) (λ s. staged ((b.start, with_type t.0 (shown b []).1) ∷ s.blocks) s.stack_pos s.idx)))) (exec-own ok sized code b.start)
        ∙ ap (λ (x : Option (BlockType × List (ℕ × ℕ))). and_then x (λ t.
        and_then (first_stage row code es (pos ++ t.1) (insert_state b.start (stored (own_of row code b.start)) r)) (λ s. staged ((b.start, with_type t.0 (shown b []).1) ∷ s.blocks) s.stack_pos s.idx)))
        (ap (λ (x : Ran). stage_of (shown b []).1 x.goes) (sym afresh) ∙ stage-same b.id b.start b.end (run (plainly row) code is b.start).stack t goes))

  settle-one : (b : Block) → run (plainly row) code is b.start ≡ own (plainly row) code b.start → (es : Blocks) (ns : List Node)
      → ((pos : List (ℕ × ℕ)) (r : RevIdx) → Cached row code r → Settles ns pos r (first_stage row code es pos r))
      → (pos : List (ℕ × ℕ)) (r : RevIdx) → Cached row code r → Settles (node_of b ∷ ns) pos r (first_stage row code (shown b [] ∷ es) pos r)
  settle-one b afresh es ns rest pos r c = split (by_kind b.kind)
    where
      split : Static b.kind ⊎ Turns b.kind → Settles (node_of b ∷ ns) pos r (first_stage row code (shown b [] ∷ es) pos r)
      split (inl st) = subst (Settles (node_of b ∷ ns) pos r) (static-on b afresh es pos r st) (settle-on (node_of b) ns pos r r (beside-itself row code c) (rest _ r c))
      split (inr t) =
          let k = inserted b.start r c in
          subst (Settles (node_of b ∷ ns) pos r) (turns-on b afresh es pos r t) (settle-on (node_of b) ns pos r _ k (rest _ _ k.cached))

  no_blocks : (pos : List (ℕ × ℕ)) (r : RevIdx) → Cached row code r → Settles [] pos r (first_stage row code [] pos r)
  unfolding first_stage
  no_blocks pos r c = record { idx = r; is-staged = ap (λ (l : List (ℕ × ℕ)). staged [] l r) (sym (append-nil pos)); beside = beside-itself row code c }

  -- Lines 346 to 372.
  pub settles : (bs : List Block) → ((b : Block) → In b bs → run (plainly row) code is b.start ≡ own (plainly row) code b.start) → (pos : List (ℕ × ℕ)) (r : RevIdx) → Cached row code r
      → Settles (nodes (plainly row) code is bs) pos r (first_stage row code (map (λ (b : Block). shown b []) bs) pos r)
  settles [] afresh = no_blocks
  settles (b ∷ bs) afresh = settle-one b (afresh b here) (map (λ (b : Block). shown b []) bs) (nodes (plainly row) code is bs) (settles bs (λ d i. afresh d (there i)))

-- ---- lines 374 to 394

abbrev Table : List (ℕ × Parents) → List Parent → Type 0
Table m ps = (to : ℕ) → unwrap_or [] (get eqb to m) ≡ map entry_of (at_block to ps)

abbrev at_key : ℕ → List (ℕ × Parents) → Parents
at_key to m = unwrap_or [] (get eqb to m)

module _ (m : List (ℕ × Parents)) (ps : List Parent) (t : Table m ps) (to : ℕ) (path : List ℕ) (s : Stack) where
  abbrev put : List (ℕ × Parents)
  put = insert eqb to (insert same path (stored s) (at_key to m)) m

  lacks : ((p : Parent) → In p (at_block to ps) → ¬ (p.path ≡ path)) → contains_key same path (at_key to m) ≡ false
  lacks h =
      ap (contains_key same path) (t to) ∙ contains-entries path (at_block to ps)
      ∙ none-some (λ (p : Parent). same path p.path) (at_block to ps) (λ p i. off p i (same path p.path) refl)
    where
      off : (p : Parent) → In p (at_block to ps) → (b : Bool) → same path p.path ≡ b → same path p.path ≡ false
      off p i true e = absurd (h p i (sym (path-test.equal path p.path e)))
      off p i false e = e

  at_more : (k : ℕ) → at_block k (ps ++ parent to path s ∷ []) ≡ at_block k ps ++ at_block k (parent to path s ∷ [])
  at_more k = keep_append (λ (p : Parent). eqb k p.to) ps (parent to path s ∷ [])

  pub table-put : ((p : Parent) → In p (at_block to ps) → ¬ (p.path ≡ path)) → Table put (ps ++ parent to path s ∷ [])
  table-put h k = split (eqb k to) refl
    where
      split : (b : Bool) → eqb k to ≡ b → at_key k put ≡ map entry_of (at_block k (ps ++ parent to path s ∷ []))
      split true e =
          let q = eqb-true k to e in
          ap (λ (y : ℕ). at_key y put) q ∙ ap (unwrap_or []) (get-inserted number-test to (insert same path (stored s) (at_key to m)) m)
          ∙ insert-new same path (stored s) (at_key to m) (lacks h) ∙ ap (λ (l : Parents). l ++ (path, stored s) ∷ []) (t to)
          ∙ sym (ap (λ (y : ℕ). map entry_of (at_block y (ps ++ parent to path s ∷ []))) q
          ∙ ap (map entry_of) (at_more to ∙ ap (λ (l : List Parent). at_block to ps ++ l) (if-true _ _ _ (eq-eqb to to refl)))
          ∙ map-append entry_of (at_block to ps) (parent to path s ∷ []))
      split false e =
          ap (unwrap_or []) (get_other number-test k to (insert same path (stored s) (at_key to m)) m e) ∙ t k
          ∙ sym (ap (map entry_of) (at_more k ∙ ap (λ (l : List Parent). at_block k ps ++ l) (if-false _ _ _ e) ∙ append-nil (at_block k ps)))

-- what is there already is put again
insert-same : {K W : Type 0} (same_key : K → K → Bool) (k : K) (v : W) (m : List (K × W)) → get same_key k m ≡ some v → insert same_key k v m ≡ m
insert-same same_key k v [] e = cc
insert-same {K} {W} same_key k v (x ∷ m) e = split (same_key k x.0) refl (insert-same same_key k v m)
  where
    split : (b : Bool) → same_key k x.0 ≡ b → (get same_key k m ≡ some v → insert same_key k v m ≡ m) → insert same_key k v (x ∷ m) ≡ x ∷ m
    split true on ih =
        let f : some x.1 ≡ some v = sym (if-true _ _ _ on) ∙ e in
        let g : x.1 ≡ v = cc in
        if-true _ _ _ on ∙ ap {B = List (K × W)} (λ (w : W). (x.0, w) ∷ m) (sym g)
    split false off ih = if-false _ _ _ off ∙ ap {B = List (K × W)} (λ (l : List (K × W)). x ∷ l) (ih (sym (if-false _ _ _ off) ∙ e))

table-again : (m : List (ℕ × Parents)) (ps : List Parent) → Table m ps → (to : ℕ) (path : List ℕ) (s : Stack) → get same path (at_key to m) ≡ some (stored s)
    → Table (insert eqb to (insert same path (stored s) (at_key to m)) m) ps
table-again m ps t to path s e k = split (eqb k to) refl
  where
    split : (b : Bool) → eqb k to ≡ b → at_key k (insert eqb to (insert same path (stored s) (at_key to m)) m) ≡ map entry_of (at_block k ps)
    split true q =
        let p = eqb-true k to q in
        ap (λ (y : ℕ). at_key y (insert eqb to (insert same path (stored s) (at_key to m)) m)) p
        ∙ ap (unwrap_or []) (get-inserted number-test to (insert same path (stored s) (at_key to m)) m) ∙ insert-same same path (stored s) (at_key to m) e
        ∙ ap (λ (y : ℕ). at_key y m) (sym p) ∙ t k
    split false q = ap (unwrap_or []) (get_other number-test k to (insert same path (stored s) (at_key to m)) m q) ∙ t k

-- the parents may have grown, and the caches; nothing else has changed
pub record Fills (row : ℕ → Row) (code : List ℕ) (r q : RevIdx) (ps : List Parent) : Type 0 where
  pub cached : Cached row code q
  pub table : Table q.parents ps
  pub istate : q.istate ≡ r.istate
  pub badpaths : q.badpaths ≡ r.badpaths
  pub reachable0 : q.reachable0 ≡ r.reachable0

module _ (row : ℕ → Row) (code : List ℕ) (a : ℕ) (s : Stack) where
  abbrev lead : ℕ → Parent
  lead t = parent t (a ∷ []) s

  abbrev Fresh : List Parent → Type 0
  Fresh ps = (p : Parent) → In p ps → ¬ (p.path ≡ a ∷ [])

  fill_one : (t : ℕ) (r q : RevIdx) (ps : List Parent) → Fills row code r q ps → ((p : Parent) → In p (at_block t ps) → ¬ (p.path ≡ a ∷ []))
      → Fills row code r (insert_direct_parent t a (stored s) q) (ps ++ lead t ∷ [])
  fill_one t r q ps f h = record {
    cached = record { shallow = f.cached.shallow; deep = f.cached.deep; replayed = f.cached.replayed };
    table = table-put q.parents ps f.table t (a ∷ []) s h;
    istate = f.istate;
    badpaths = f.badpaths;
    reachable0 = f.reachable0;
  }

  fill-again : (t : ℕ) (r q : RevIdx) (ps : List Parent) → Fills row code r q ps → get same (a ∷ []) (at_key t q.parents) ≡ some (stored s)
      → Fills row code r (insert_direct_parent t a (stored s) q) ps
  fill-again t r q ps f e = record {
    cached = record { shallow = f.cached.shallow; deep = f.cached.deep; replayed = f.cached.replayed };
    table = table-again q.parents ps f.table t (a ∷ []) s e;
    istate = f.istate;
    badpaths = f.badpaths;
    reachable0 = f.reachable0;
  }

  at-fresh : (t : ℕ) (ps : List Parent) → Fresh ps → (p : Parent) → In p (at_block t ps) → ¬ (p.path ≡ a ∷ [])
  at-fresh t ps h p i = h p (in-keep (λ (p : Parent). eqb t p.to) ps i).1

  -- lines 382 to 386: both sides, or one twice
  fill-both : (t f : ℕ) (b : RustBlock) → b.start ≡ a → (r q : RevIdx) (ps : List Parent) → Fills row code r q ps → Fresh ps
      → Fills row code r (insert_direct_parent f a (stored s) (insert_direct_parent t a (stored s) q)) (ps ++ map lead (sides (jumpi t f)))
  fill-both t f b e r q ps g h = split (eqb t f) refl
    where
      once : RevIdx
      once = insert_direct_parent t a (stored s) q

      first : Fills row code r once (ps ++ lead t ∷ [])
      first = fill_one t r q ps g (at-fresh t ps h)

      there-already : t ≡ f → get same (a ∷ []) (at_key f once.parents) ≡ some (stored s)
      there-already e =
          ap (λ (x : ℕ). get same (a ∷ []) (at_key x once.parents)) (sym e)
          ∙ ap (λ (o : Option Parents). get same (a ∷ []) (unwrap_or [] o)) (get-inserted number-test t (insert same (a ∷ []) (stored s) (at_key t q.parents)) q.parents)
          ∙ get-inserted path-test (a ∷ []) (stored s) (at_key t q.parents)

      other-side : eqb t f ≡ false → (p : Parent) → In p (at_block f (ps ++ lead t ∷ [])) → ¬ (p.path ≡ a ∷ [])
      other-side off p i =
          let k = in-keep (λ (p : Parent). eqb f p.to) (ps ++ lead t ∷ []) i in
          side (in-cases ps k.1) (eqb-true f p.to k.0)
        where
          side : In p ps ⊎ In p (lead t ∷ []) → f ≡ p.to → ¬ (p.path ≡ a ∷ [])
          side (inl j) q = h p j
          side (inr j) q = absurd (eqb-false t f off (sym (q ∙ ap (λ (x : Parent). x.to) (in-only j))))

      split : (b : Bool) → eqb t f ≡ b → Fills row code r (insert_direct_parent f a (stored s) once) (ps ++ map lead (sides (jumpi t f)))
      split true on = rw (if-true (eqb t f) _ _ on) (fill-again f r once (ps ++ lead t ∷ []) first (there-already (eqb-true t f on)))
      split false off =
          rw (if-false (eqb t f) _ _ off)
          (subst (Fills row code r (insert_direct_parent f a (stored s) once)) (append_assoc ps (lead t ∷ []) (lead f ∷ [])) (fill_one f r once (ps ++ lead t ∷ []) first (other-side off)))

  -- lines 377 to 393
  fill-sides : (b : RustBlock) → b.start ≡ a → (k : Kind) (r q : RevIdx) (ps : List Parent) → Fills row code r q ps → Fresh ps
      → Fills row code r (insert_sides b (stored s) (type_of k []) q) (ps ++ map lead (sides k))
  fill-sides b e (terminate success) r q ps g h = rw append-nil g
  fill-sides b e (jump t) r q ps g h = rw e (fill_one t r q ps g (at-fresh t ps h))
  fill-sides b e (jumpi t f) r q ps g h = rw e (fill-both t f b e r q ps g h)
  fill-sides b e dynamic_jump r q ps g h = rw append-nil g
  fill-sides b e (dynamic_jumpi f) r q ps g h = rw e (fill_one f r q ps g (at-fresh f ps h))

-- each stored parent is a block below lo
abbrev Below : ℕ → List Parent → Type 0
Below lo ps = (p : Parent) → In p ps → (b : ℕ) × (p.path ≡ b ∷ []) × (b < lo)

parents-step : (row : ℕ → Row) (code : List ℕ) (e : ℕ × RustBlock) (es : Blocks) (r : RevIdx)
    → direct_parents row code (e ∷ es) r ≡ and_then (get_state row code e.1.start r) (λ g. direct_parents row code es (insert_sides e.1 g.value e.1.btype g.idx))
unfolding direct_parents
parents-step row code e es r = refl

module _ {row : ℕ → Row} (ok : Lawful row) (sized : Sized row) (code : List ℕ) where
  pub record Filled (ns : List Node) (r : RevIdx) (ps : List Parent) (o : Option RevIdx) : Type 0 where
    pub idx : RevIdx
    pub is : o ≡ some idx
    pub fills : Fills row code r idx (ps ++ direct ns)

  abbrev node-leads : Node → List Parent
  node-leads n = map (λ (t : ℕ). parent t (n.block.start ∷ []) n.own.stack) (sides n.block.kind)

  fills-beside : {r q : RevIdx} {ps : List Parent} → Table r.parents ps → Beside row code r q → Fills row code r q ps
  fills-beside {r} {q} {ps} t b = record {
    cached = b.cached;
    table = subst (λ (m : List (ℕ × Parents)). Table m ps) (sym b.parents) t;
    istate = b.istate;
    badpaths = b.badpaths;
    reachable0 = b.reachable0;
  }

  fills-trans : {r q p : RevIdx} {ps qs : List Parent} → Fills row code r q ps → Fills row code q p qs → Fills row code r p qs
  fills-trans f g = record { cached = g.cached; table = g.table; istate = g.istate ∙ f.istate; badpaths = g.badpaths ∙ f.badpaths; reachable0 = g.reachable0 ∙ f.reachable0 }

  abbrev Fills-on : ℕ → List Node → Type 0
  Fills-on lo ns = (ps : List Parent) (r : RevIdx) → Cached row code r → Table r.parents ps → Below lo ps → Filled ns r ps (direct_parents row code (bare-blocks ns) r)

  below_more : {lo : ℕ} (n : Node) (ps : List Parent) → lo ≤ n.block.start → Below lo ps → Below (suc n.block.start) (ps ++ node-leads n)
  below_more n ps l h p i = side (in-cases ps i)
    where
      side : In p ps ⊎ In p (node-leads n) → (b : ℕ) × (p.path ≡ b ∷ []) × (b < suc n.block.start)
      side (inl j) = let k = h p j in (k.0, k.1, omega (arith, k.2))
      side (inr j) =
          let m = in_map (λ (t : ℕ). parent t (n.block.start ∷ []) n.own.stack) (sides n.block.kind) j in
          (n.block.start, ap (λ (q : Parent). q.path) m.2, omega arith)

  fill-node : (lo : ℕ) (n : Node) (ns : List Node) → lo ≤ n.block.start → n.own.stack ≡ own_of row code n.block.start → Fills-on (suc n.block.start) ns → Fills-on lo (n ∷ ns)
  fill-node lo n ns l owns rest ps r c t h =
      let a = n.block.start in
      let g = state-given ok sized code a r c in
      let fresh : (p : Parent) → In p ps → ¬ (p.path ≡ a ∷ [])
      = λ p i e. let k = h p i in let q = ap head_of (sym k.1 ∙ e) in absurd (omega (arith, k.2)) in
      let f = fill-sides row code a n.own.stack (shown n.block []).1 refl n.block.kind r g.idx ps (fills-beside t g.beside) fresh in
      let next = insert_sides (shown n.block []).1 (stored n.own.stack) (type_of n.block.kind []) g.idx in
      let k = rest (ps ++ node-leads n) next f.cached f.table (below_more n ps l h) in
      record {
        idx = k.idx;
        is = parents-step row code (shown n.block []) (bare-blocks ns) r
            ∙ ap (λ (x : Option (Got State)). and_then x (λ g. direct_parents row code (bare-blocks ns) (insert_sides (shown n.block []).1 g.value (type_of n.block.kind []) g.idx))) g.is
            ∙ ap (λ (x : Stack). direct_parents row code (bare-blocks ns) (insert_sides (shown n.block []).1 (stored x) (type_of n.block.kind []) g.idx)) (sym owns) ∙ k.is;
        fills = subst (Fills row code r k.idx) (append_assoc ps (node-leads n) (direct ns)) (fills-trans f k.fills);
      }
    where
      head_of : List ℕ → ℕ
      head_of [] = 0
      head_of (x ∷ xs) = x

  fill_none : (lo : ℕ) → Fills-on lo []
  unfolding direct_parents
  fill_none lo ps r c t h = record { idx = r; is = refl; fills = record { cached = c; table = subst (Table r.parents) (sym (append-nil ps)) t; istate = refl; badpaths = refl; reachable0 = refl } }

  -- Lines 374 to 394.
  pub all-filled : {lo : ℕ} (ns : List Node) → Rising lo (node-starts ns) → ((n : Node) → In n ns → n.own.stack ≡ own_of row code n.block.start) → Fills-on lo ns
  all-filled {lo} [] r owns = fill_none lo
  all-filled {lo} (n ∷ ns) (one_more h r) owns = fill-node lo n ns h (owns n here) (all-filled ns r (λ m i. owns m (there i)))
