-- Document 01: "Left out ... the tables states, deep_states, replayed_paths and the replay in materialize_path_state, on two facts to be proved: a block run
-- from any identity depth trims to the same stack, and resolve_with_parent is associative in its stored form." By the second, the state that is stored for a
-- path is what its blocks compose to; that the Rust's replay gives just that is said of its text (`source`, Caches). Assumes nothing.
use Prim.Native.Nat.{ℕ}
use native.Mathlib.Omega.{arith}
use mathlib.Core.Path.{◌≡◌, refl, sym, ap, subst, ◌∙◌}
use mathlib.Core.Logic.{◌⊎◌, inl, inr}
use mathlib.Core.Bool.{false}
use mathlib.Core.Option.{Option, none, some}
use mathlib.Core.List.{List, [], ◌∷◌, ◌++◌}
use Rattle.spec.specs.Opcodes.{Rules}
use Rattle.spec.specs.Walk.{Ins}
use Rattle.spec.specs.Blocks.{Kind, terminate, jump, jumpi, dynamic_jump, dynamic_jumpi, Block}
use Rattle.spec.specs.Stacks.{Sym, before, constant, jumpdest, other, Stack, Ran, run, compose}
use Rattle.spec.specs.Search.{Node, node, nodes, Taker, taker, takes, takers, sides, Parent, parent, direct, Found, nowhere, found, Rec, leads, found_parents, Level, search}
use Rattle.theorems.proofs.Composing.{compose-assoc}
use Rattle.laws.proofs.Members.{In, here, there, in-only, in-cases, in-gather, in_map}
use Rattle.theorems.proofs.Each.{Each, each_map, each_in}
use Rattle.theorems.proofs.Records.{Stored, Opens, first-level, deeper-level, Recorded, arrives, is_lost, too-heavy, Came, search-history}

-- ---- the blocks that take turns

-- a taker's block: its own stack, and the symbol that its jump takes; it is no "Terminate false"
pub record Takes (n : Node) (k : Taker) : Type 0 where
  pub start : k.start ≡ n.block.start
  pub first : k.first ≡ n.own.stack
  pub goes : n.own.goes ≡ some (before k.position)
  pub leads_on : ¬ (n.block.kind ≡ terminate false)

taker-is : (n : Node) → ¬ (n.block.kind ≡ terminate false) → (g : Option Sym) → n.own.goes ≡ g → {k : Taker} → In k (taker n g) → Takes n k
taker-is n l none e i = elim i [ ]
taker-is n l (some (before p)) e here = record { start = refl; first = refl; goes = e; leads_on = l }
taker-is n l (some (before p)) e (there i) = elim i [ ]
taker-is n l (some (constant v)) e i = elim i [ ]
taker-is n l (some (jumpdest v)) e i = elim i [ ]
taker-is n l (some (other pc)) e i = elim i [ ]

kind-takes : (n : Node) (x : Kind) → n.block.kind ≡ x → {k : Taker} → In k (takes n x) → Takes n k
kind-takes n (terminate success) e i = elim i [ ]
kind-takes n (jump t) e i = elim i [ ]
kind-takes n (jumpi t f) e i = elim i [ ]
kind-takes n dynamic_jump e i = taker-is n (λ q. let z : ◌≡◌ {A = ℕ} 0 1 = cc in omega arith) n.own.goes refl i
kind-takes n (dynamic_jumpi f) e i = taker-is n (λ q. let z : ◌≡◌ {A = ℕ} 0 1 = cc in omega arith) n.own.goes refl i

-- every taker is a block's
pub turned : {ns : List Node} {k : Taker} → In k (takers ns) → (n : Node) × In n ns × Takes n k
turned {ns} i = let g = in-gather (λ (n : Node). takes n n.block.kind) ns i in (g.0, g.1, kind-takes g.0 g.0.block.kind refl g.2)

module _ (rules : Rules) (code : List ℕ) (is : List Ins) where
  -- a block's own stack
  abbrev pub own : ℕ → Stack
  own b = (run rules code is b).stack

  -- what a path's blocks compose to, each with the next
  unfoldable pub composed-on : Stack → List ℕ → Stack
  composed-on s [] = s
  composed-on s (b ∷ bs) = composed-on (compose s (own b)) bs

  composed-assoc : (s t : Stack) (bs : List ℕ) → compose s (composed-on t bs) ≡ composed-on (compose s t) bs
  unfolding composed-on
  composed-assoc s t [] = refl
  composed-assoc s t (b ∷ bs) = composed-assoc s (compose t (own b)) bs ∙ ap (λ (u : Stack). composed-on u bs) (sym (compose-assoc s t (own b)))

  composed-append : (s : Stack) (cs bs : List ℕ) → composed-on s (cs ++ bs) ≡ composed-on (composed-on s cs) bs
  unfolding composed-on
  composed-append s [] bs = refl
  composed-append s (c ∷ cs) bs = composed-append (compose s (own c)) cs bs

  -- the stack is what comes of the path's blocks, one composed with the next; a path has a first block
  pub record Replays (path : List ℕ) (s : Stack) : Type 0 where
    pub first : ℕ
    pub rest : List ℕ
    pub path-is : path ≡ first ∷ rest
    pub stack_is : s ≡ composed-on (own first) rest

  one_block : (b : ℕ) {path : List ℕ} {s : Stack} → path ≡ b ∷ [] → s ≡ own b → Replays path s
  unfolding composed-on
  one_block b e f = record { first = b; rest = []; path-is = e; stack_is = f }

  longer : {p q : List ℕ} {s t : Stack} → Replays p s → Replays q t → Replays (p ++ q) (compose s t)
  unfolding composed-on
  longer h k = record {
    first = h.first;
    rest = h.rest ++ k.first ∷ k.rest;
    path-is = rw (h.path-is, k.path-is);
    stack_is = rw (h.stack_is, k.stack_is) (composed-assoc (composed-on (own h.first) h.rest) (own k.first) k.rest ∙ sym (composed-append (own h.first) h.rest (k.first ∷ k.rest)));
  }

  -- ---- every state of the search is of that kind

  module _ (bs : List Block) where
    abbrev ns : List Node
    ns = nodes rules code is bs

    -- a node has its block's own run
    pub own-run : {n : Node} → In n ns → n.own ≡ run rules code is n.block.start
    own-run i = let g = in_map (λ (b : Block). node b (run rules code is b.start)) bs i in rw g.2

    direct-replays : {p : Parent} → In p (direct ns) → Replays p.path p.stack
    direct-replays {p} i =
        let g = in-gather _ ns i in
        let m = in_map (λ (t : ℕ). parent t (g.0.block.start ∷ []) g.0.own.stack) (sides g.0.block.kind) g.2 in
        one_block g.0.block.start (ap (λ (q : Parent). q.path) m.2) (ap (λ (q : Parent). q.stack) m.2 ∙ ap (λ (r : Ran). r.stack) (own-run g.1))

    taker-replays : {k : Taker} → In k (takers ns) → Replays (k.start ∷ []) k.first
    taker-replays {k} i =
        let g = turned i in
        one_block g.0.block.start (ap (λ (b : ℕ). b ∷ []) g.2.start) (g.2.first ∙ ap (λ (r : Ran). r.stack) (own-run g.1))

    -- a record's path has a first block, and its kept state is what the path's blocks compose to
    pub data ReplaysRec : Rec → Type 0 where
      without : {r : Rec} {s : Stack} → r.to ≡ nowhere → Replays r.path s → ReplaysRec r
      kept : {r : Rec} {t : ℕ} {s : Stack} → r.to ≡ found t s → Replays r.path s → ReplaysRec r

    leads-replays : (r : Rec) {p : Parent} → ReplaysRec r → In p (leads r.path r.to) → Replays p.path p.stack
    leads-replays r {p} (without e h) i = elim (subst (λ (f : Found). In p (leads r.path f)) e i) [ ]
    leads-replays r {p} (kept {t} {s} e h) i =
        subst (λ (q : Parent). Replays q.path q.stack) (sym (in-only (subst (λ (f : Found). In p (leads r.path f)) e i))) h

    module _ (recs : List Rec) (all : Each (λ _. ReplaysRec) recs) where
      pub parent-replays : {p : Parent} → Stored ns recs p → Replays p.path p.stack
      parent-replays {p} h = split (in-cases (direct ns) h)
        where
          split : In p (direct ns) ⊎ In p (found_parents recs) → Replays p.path p.stack
          split (inl i) = direct-replays i
          split (inr i) = let g = in-gather (λ (r : Rec). leads r.path r.to) recs i in leads-replays g.0 (each_in all g.1).1 g.2

      module _ (reached : List ℕ) where
        -- the state of every level
        pub level-replays : {start w : ℕ} {l : Level} → Opens ns reached recs start w l → Replays l.path l.state
        level-replays (first-level {k} i e h) = subst (λ (b : ℕ). Replays (b ∷ []) k.first) e (taker-replays i)
        level-replays (deeper-level o w h e) = longer (level-replays o) (parent-replays h.stored)

        pub record-replays : (r : Rec) → Recorded ns reached recs r → ReplaysRec r
        record-replays r (arrives o w h e) = kept refl (longer (level-replays o) (parent-replays h.stored))
        record-replays r (is_lost o w h e) = without refl (longer (level-replays o) (parent-replays h.stored))
        record-replays r (too-heavy o h) = without refl (longer (level-replays o) (parent-replays h.stored))

    -- Every state that the search keeps is what its path's blocks compose to.
    pub search-replays : (limit : ℕ) → Each (λ _. ReplaysRec) (search limit ns).recs
    search-replays limit = each_map (λ before r all (h : Came ns before r). record-replays before all _ r h.made) (search-history limit ns)
