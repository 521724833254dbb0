-- resolver.rs, lines 460 to 485, and mod.rs, lines 105 to 111: the entries that are kept, the blocks that are merged, and pruning. Assumes nothing.
use Prim.Native.Nat.{ℕ, ◌≤◌}
use native.Mathlib.Omega.{arith}
use mathlib.Core.Path.{◌≡◌, refl, sym, ap, ap₂, subst, ◌∙◌}
use mathlib.Core.Bool.{Bool, false, not, ◌&&◌}
use mathlib.Core.Option.{Option, none, some}
use mathlib.Core.List.{List, [], ◌∷◌, ◌++◌, map}
use lib.Dec.{eqb}
use borrow.Author.Tests.{eqb-true, eq-eqb, ne_eqb, not-true}
use Rattle.spec.specs.Lists.{if, keep}
use Rattle.spec.specs.Blocks.{Kind, terminate, jump, jumpi, dynamic_jump, dynamic_jumpi, Block}
use Rattle.spec.specs.Stacks.{Sym, before, constant, jumpdest, other}
use Rattle.spec.specs.Search.{Node, Taker, taker, takes, takers, Found, nowhere, found, Rec, is_nowhere, dest, dests}
use Rattle.spec.specs.Ending.{Final, all_are, merged, ended, entries_of, finals}
use Rattle.laws.proofs.Branch.{both, if-true, if-false, and_then}
use Rattle.laws.proofs.Members.{In, here, there, same_test, in-gather, in-keep, in_map}
use Rattle.laws.proofs.Lists.{Rising, one_more}
use Rattle.source.specs.Types.{Dynamic, BlockType, Terminate, Jump, Jumpi, DynamicJump, DynamicJumpi, RustBlock, rust_block, with_type, Blocks}
use Rattle.source.specs.Shown.{to_of, jump_of, type_of, view}
use Rattle.source.specs.Resolver.{change, change_each, is_some, retained, all_to, one_target, merged_type}
use Rattle.source.proofs.Small.{keep-none}
use Rattle.source.proofs.Turning.{shows, node-starts, rises-above}
use Rattle.source.proofs.Rounding.{positions, kind-of, taker-node}

-- ---- one pass over `stack_pos`

-- a block with a type
abbrev form : Node → BlockType → ℕ × RustBlock
form n t = (n.block.start, rust_block n.block.id n.block.start n.block.end t)

change-step : (f : BlockType → Option BlockType) (start : ℕ) (e : ℕ × RustBlock) (es : Blocks)
    → change f start (e ∷ es) ≡ if (eqb start e.0) (and_then (f e.1.btype) (λ t. some ((e.0, with_type t e.1) ∷ es))) (and_then (change f start es) (λ more. some (e ∷ more)))
unfolding change
change-step f start e es = refl

abbrev behind : ℕ × RustBlock → Option Blocks → Option Blocks
behind e o = and_then o (λ more. some (e ∷ more))

-- the keys are others
skips : (f : BlockType → Option BlockType) (ks : List (ℕ × ℕ)) (e : ℕ × RustBlock) (es : Blocks) → ((k : ℕ × ℕ) → In k ks → ¬ (k.0 ≡ e.0))
    → change_each f ks (e ∷ es) ≡ behind e (change_each f ks es)
skips f [] e es h = refl
skips f (k ∷ ks) e es h =
    ap (λ (o : Option Blocks). and_then o (change_each f ks)) (change-step f k.0 e es ∙ if-false _ _ _ (ne_eqb k.0 e.0 (h k here)))
    ∙ split (change f k.0 es) (λ bs. skips f ks e bs (λ j i. h j (there i)))
  where
    split : (o : Option Blocks) → ((bs : Blocks) → change_each f ks (e ∷ bs) ≡ behind e (change_each f ks bs))
        → and_then (behind e o) (change_each f ks) ≡ behind e (and_then o (change_each f ks))
    split none ih = refl
    split (some bs) ih = ih bs

-- a block takes no turn, or one
data Once (n : Node) : List Taker → Type 0 where
  never : Once n []
  turns : {k : Taker} → k.start ≡ n.block.start → Once n (k ∷ [])

taker-once : (n : Node) (g : Option Sym) → Once n (taker n g)
taker-once n none = never
taker-once n (some (before p)) = turns refl
taker-once n (some (constant v)) = never
taker-once n (some (jumpdest v)) = never
taker-once n (some (other pc)) = never

takes-once : (n : Node) (k : Kind) → Once n (takes n k)
takes-once n (terminate success) = never
takes-once n (jump t) = never
takes-once n (jumpi t f) = never
takes-once n dynamic_jump = taker-once n n.own.goes
takes-once n (dynamic_jumpi f) = taker-once n n.own.goes

-- a taker's key is the start of a block
key_above : {lo : ℕ} (ns : List Node) → Rising lo (node-starts ns) → (k : ℕ × ℕ) → In k (positions (takers ns)) → lo ≤ k.0
key_above ns r k i =
    let m = in_map (λ (j : Taker). (j.start, j.position)) (takers ns) i in
    let n = taker-node m.1 in
    let h = rises-above ns r n.1 in
    let e : k.0 ≡ m.0.start = ap (λ (x : ℕ × ℕ). x.0) m.2 in
    let q = n.2.start in
    omega arith

module _ (f : BlockType → Option BlockType) (g h : Node → BlockType) where
  -- f turns the type of a block that takes turns into the new one, and the others have it already
  pub record Changes (n : Node) : Type 0 where
    pub takes-turns : f (g n) ≡ some (h n)
    pub takes_none : takes n n.block.kind ≡ [] → g n ≡ h n

  head : (n : Node) (ks : List (ℕ × ℕ)) (es later : Blocks) → Changes n → (ts : List Taker) → takes n n.block.kind ≡ ts → Once n ts
      → ((k : ℕ × ℕ) → In k ks → ¬ (k.0 ≡ n.block.start)) → change_each f ks es ≡ some later
      → change_each f (positions ts ++ ks) (form n (g n) ∷ es) ≡ some (form n (h n) ∷ later)
  head n ks es later c ts e never others rest =
      skips f ks (form n (g n)) es others ∙ ap (behind (form n (g n))) rest ∙ ap (λ (t : BlockType). some (form n t ∷ later)) (c.takes_none e)
  head n ks es later c ts e (turns {k} q) others rest =
      ap (λ (o : Option Blocks). and_then o (change_each f ks))
      (change-step f k.start (form n (g n)) es ∙ if-true _ _ _ (eq-eqb k.start n.block.start q) ∙ ap (λ (o : Option BlockType). and_then o (λ t. some (form n t ∷ es))) c.takes-turns)
      ∙ skips f ks (form n (h n)) es others ∙ ap (behind (form n (h n))) rest

  map-positions : (ts us : List Taker) → positions (ts ++ us) ≡ positions ts ++ positions us
  map-positions [] us = refl
  map-positions (t ∷ ts) us = ap {B = List (ℕ × ℕ)} (λ (l : List (ℕ × ℕ)). (t.start, t.position) ∷ l) (map-positions ts us)

  pub each-changed : {lo : ℕ} (ns : List Node) → Rising lo (node-starts ns) → ((n : Node) → In n ns → Changes n)
      → change_each f (positions (takers ns)) (map (λ (n : Node). form n (g n)) ns) ≡ some (map (λ (n : Node). form n (h n)) ns)
  each-changed [] r c = refl
  each-changed (n ∷ ns) (one_more l r) c =
      ap (λ (ks : List (ℕ × ℕ)). change_each f ks (map (λ (n : Node). form n (g n)) (n ∷ ns))) (map-positions (takes n n.block.kind) (takers ns))
      ∙ head n (positions (takers ns)) (map (λ (n : Node). form n (g n)) ns) (map (λ (n : Node). form n (h n)) ns) (c n here) (takes n n.block.kind) refl (takes-once n n.block.kind)
      (λ k i e. let a = key_above ns r k i in absurd (omega arith)) (each-changed ns r (λ m i. c m (there i)))

-- ---- what the passes do to a type

abbrev kept-type : Kind → List Rec → BlockType
kept-type (terminate success) es = Terminate success
kept-type (jump t) es = Jump t
kept-type (jumpi t f) es = Jumpi t f
kept-type dynamic_jump es = DynamicJump (map jump_of (keep (λ (r : Rec). not (is_nowhere r.to)) es))
kept-type (dynamic_jumpi f) es = DynamicJumpi (map jump_of es) f

some-found : (f : Found) → is_some (to_of f) ≡ not (is_nowhere f)
some-found nowhere = refl
some-found (found t s) = refl

keep-found : (es : List Rec) → keep (λ (d : Dynamic). is_some d.to) (map jump_of es) ≡ map jump_of (keep (λ (r : Rec). not (is_nowhere r.to)) es)
keep-found [] = refl
keep-found (x ∷ es) =
    (λ i. if (some-found x.to i) (jump_of x ∷ keep-found es i) (keep-found es i))
    ∙ both (λ (l : List Rec). if (not (is_nowhere x.to)) (jump_of x ∷ map jump_of rest) (map jump_of rest) ≡ map jump_of l) (not (is_nowhere x.to)) (λ on. if-true _ _ _ on) (λ off. if-false _ _ _ off)
  where
    rest : List Rec
    rest = keep (λ (r : Rec). not (is_nowhere r.to)) es

-- lines 463 to 467
retained-type : (k : Kind) (es : List Rec) → retained (type_of k es) ≡ some (kept-type k es)
retained-type (terminate success) es = refl
retained-type (jump t) es = refl
retained-type (jumpi t f) es = refl
retained-type dynamic_jump es = ap (λ (l : List Dynamic). some (DynamicJump l)) (keep-found es)
retained-type (dynamic_jumpi f) es = refl

eqb-turned : (a b : ℕ) → eqb a b ≡ eqb b a
eqb-turned a b = same_test (λ e. eq-eqb b a (sym (eqb-true a b e))) (λ e. eq-eqb a b (sym (eqb-true b a e)))

abbrev Found-all : List Rec → Type 0
Found-all es = (x : Rec) → In x es → is_nowhere x.to ≡ false

-- line 477
all_same : (t : ℕ) (es : List Rec) → Found-all es → all_to t (map jump_of es) ≡ some (all_are t (dests es))
all_same t [] h = refl
all_same t (x ∷ es) h = by x.to (h x here) (all_same t es (λ y i. h y (there i)))
  where
    by : (f : Found) → is_nowhere f ≡ false → all_to t (map jump_of es) ≡ some (all_are t (dests es))
        → and_then (to_of f) (λ u. if (eqb u t) (all_to t (map jump_of es)) (some false)) ≡ some (all_are t (dest f ++ dests es))
    by nowhere off ih = cc
    by (found u s) off ih =
        (λ i. if (eqb-turned u t i) (ih i) (some false))
        ∙ both (λ (b : Option Bool). b ≡ some (eqb t u && all_are t (dests es))) (eqb t u) (λ on. ap (λ (b : Bool). some (b && all_are t (dests es))) (sym on)) (λ off. ap (λ (b : Bool). some (b && all_are t (dests es))) (sym off))

-- lines 474 to 484
one_same : (b : Block) (es : List Rec) → Found-all es → one_target (map jump_of es) ≡ some (type_of (merged b es (dests es)).block.kind (merged b es (dests es)).entries)
one_same b [] h = refl
one_same b (x ∷ es) h = by x.to refl (h x here)
  where
    by : (f : Found) → x.to ≡ f → is_nowhere f ≡ false
        → one_target (map jump_of (x ∷ es)) ≡ some (type_of (merged b (x ∷ es) (dests (x ∷ es))).block.kind (merged b (x ∷ es) (dests (x ∷ es))).entries)
    by nowhere e off = cc
    by (found t s) e off =
        ap (λ (f : Found). and_then (to_of f) (λ first. and_then (all_to first (map jump_of es)) (λ all. some (if all (Jump first) (DynamicJump (map jump_of (x ∷ es))))))) e
        ∙ ap (λ (o : Option Bool). and_then o (λ all. some (if all (Jump t) (DynamicJump (map jump_of (x ∷ es)))))) (all_same t es (λ y i. h y (there i)))
        ∙ both (λ (f : Final). some (if (all_are t (dests es)) (Jump t) (DynamicJump (map jump_of (x ∷ es)))) ≡ some (type_of f.block.kind f.entries)) (all_are t (dests es)) (λ on. ap some (if-true _ _ _ on)) (λ off. ap some (if-false _ _ _ off))
        ∙ ap (λ (f : Found). some (type_of (merged b (x ∷ es) (dest f ++ dests es)).block.kind (merged b (x ∷ es) (dest f ++ dests es)).entries)) (sym e)

dests-kept : (es : List Rec) → dests (keep (λ (r : Rec). not (is_nowhere r.to)) es) ≡ dests es
dests-kept [] = refl
dests-kept (x ∷ es) = by x.to refl (dests-kept es)
  where
    rest : List Rec
    rest = keep (λ (r : Rec). not (is_nowhere r.to)) es

    by : (f : Found) → x.to ≡ f → dests rest ≡ dests es → dests (if (not (is_nowhere x.to)) (x ∷ rest) rest) ≡ dest x.to ++ dests es
    by nowhere e ih = ap dests (if-false _ _ _ (ap (λ (f : Found). not (is_nowhere f)) e)) ∙ ih ∙ ap (λ (f : Found). dest f ++ dests es) (sym e)
    by (found t s) e ih = ap dests (if-true _ _ _ (ap (λ (f : Found). not (is_nowhere f)) e)) ∙ ap (λ (l : List ℕ). dest x.to ++ l) ih

abbrev final-type : Block → List Rec → Kind → BlockType
final-type b es k = type_of (ended b es k).block.kind (ended b es k).entries

merged-same : (b : Block) (es : List Rec) (k : Kind) → merged_type (kept-type k es) ≡ some (final-type b es k)
merged-same b es (terminate success) = refl
merged-same b es (jump t) = refl
merged-same b es (jumpi t f) = refl
merged-same b es dynamic_jump =
    let es' = keep (λ (r : Rec). not (is_nowhere r.to)) es in
    one_same b es' (λ x i. not-true (is_nowhere x.to) (in-keep (λ (r : Rec). not (is_nowhere r.to)) es i).0)
    ∙ ap (λ (ts : List ℕ). some (type_of (merged b es' ts).block.kind (merged b es' ts).entries)) (dests-kept es)
merged-same b es (dynamic_jumpi f) = refl

-- with no entries nothing changes
bare-kept : (k : Kind) → type_of k [] ≡ kept-type k []
bare-kept (terminate success) = refl
bare-kept (jump t) = refl
bare-kept (jumpi t f) = refl
bare-kept dynamic_jump = refl
bare-kept (dynamic_jumpi f) = refl

bare-final : (b : Block) (k : Kind) → kept-type k [] ≡ final-type b [] k
bare-final b (terminate success) = refl
bare-final b (jump t) = refl
bare-final b (jumpi t f) = refl
bare-final b dynamic_jump = refl
bare-final b (dynamic_jumpi f) = refl

merged-form : (b : Block) (es : List Rec) (ts : List ℕ)
    → view (merged b es ts) ≡ (b.start, rust_block b.id b.start b.end (type_of (merged b es ts).block.kind (merged b es ts).entries))
merged-form b es [] = refl
merged-form b es (t ∷ ts) =
    both (λ (f : Final). view f ≡ (b.start, rust_block b.id b.start b.end (type_of f.block.kind f.entries))) (all_are t ts) (λ _. refl) (λ _. refl)

ended-form : (b : Block) (es : List Rec) (k : Kind) → view (ended b es k) ≡ (b.start, rust_block b.id b.start b.end (final-type b es k))
ended-form b es (terminate success) = refl
ended-form b es (jump t) = refl
ended-form b es (jumpi t f) = refl
ended-form b es dynamic_jump = merged-form b (keep (λ (r : Rec). not (is_nowhere r.to)) es) (dests es)
ended-form b es (dynamic_jumpi f) = refl

-- ---- a block that takes no turn has no record

pub unique : {lo : ℕ} (ns : List Node) → Rising lo (node-starts ns) → {m n : Node} → In m ns → In n ns → m.block.start ≡ n.block.start → m ≡ n
unique [] r i j e = elim i [ ]
unique (y ∷ ns) (one_more h r) here here e = refl
unique (y ∷ ns) (one_more h r) here (there j) e = let k = rises-above ns r j in absurd (omega arith)
unique (y ∷ ns) (one_more h r) (there i) here e = let k = rises-above ns r i in absurd (omega arith)
unique (y ∷ ns) (one_more h r) (there i) (there j) e = unique ns r i j e

module _ (ns : List Node) (rises : Rising 0 (node-starts ns)) (recs : List Rec) (taken : (x : Rec) → In x recs → (k : Taker) × In k (takers ns) × (x.start ≡ k.start)) where
  no-entries : (n : Node) → In n ns → takes n n.block.kind ≡ [] → entries_of n.block.start recs ≡ []
  no-entries n i e = keep-none (λ (r : Rec). eqb n.block.start r.start) recs (λ x j. ne_eqb n.block.start x.start (λ q. absurd (lacks x j q)))
    where
      lacks : (x : Rec) → In x recs → n.block.start ≡ x.start → ⊥
      lacks x j q =
          let k = taken x j in
          let g = in-gather (λ (n : Node). takes n n.block.kind) ns k.1 in
          let m = kind-of g.0 g.0.block.kind refl g.2 in
          let same : g.0 ≡ n = unique ns rises g.1 i (sym m.start ∙ sym k.2 ∙ sym q) in
          elim (subst (In k.0) e (subst (λ (y : Node). In k.0 (takes y y.block.kind)) same g.2)) [ ]

  abbrev entries_at : Node → List Rec
  entries_at n = entries_of n.block.start recs

  shows-form : (ms : List Node) → shows ms recs ≡ map (λ (n : Node). form n (type_of n.block.kind (entries_at n))) ms
  shows-form [] = refl
  shows-form (m ∷ ms) = ap {B = Blocks} (λ (l : Blocks). form m (type_of m.block.kind (entries_at m)) ∷ l) (shows-form ms)

  finals-form : (ms : List Node) → map view (finals ms recs) ≡ map (λ (n : Node). form n (final-type n.block (entries_at n) n.block.kind)) ms
  finals-form [] = refl
  finals-form (m ∷ ms) = ap₂ {C = Blocks} (λ (e : ℕ × RustBlock) (l : Blocks). e ∷ l) (ended-form m.block (entries_at m) m.block.kind) (finals-form ms)

  -- Lines 460 to 485: the blocks that are left are the definitions' final ones.
  pub all-merged : and_then (change_each retained (positions (takers ns)) (shows ns recs)) (change_each merged_type (positions (takers ns))) ≡ some (map view (finals ns recs))
  all-merged =
      ap (λ (bs : Blocks). and_then (change_each retained (positions (takers ns)) bs) (change_each merged_type (positions (takers ns)))) (shows-form ns)
      ∙ ap (λ (o : Option Blocks). and_then o (change_each merged_type (positions (takers ns))))
      (each-changed retained (λ (n : Node). type_of n.block.kind (entries_at n)) (λ (n : Node). kept-type n.block.kind (entries_at n)) ns rises
      (λ n i. record {
        takes-turns = retained-type n.block.kind (entries_at n);
        takes_none = λ e. let z = no-entries n i e in ap (type_of n.block.kind) z ∙ bare-kept n.block.kind ∙ ap (kept-type n.block.kind) (sym z);
      }))
      ∙ each-changed merged_type (λ (n : Node). kept-type n.block.kind (entries_at n)) (λ (n : Node). final-type n.block (entries_at n) n.block.kind) ns rises
      (λ n i. record {
        takes-turns = merged-same n.block (entries_at n) n.block.kind;
        takes_none = λ e. let z = no-entries n i e in
            ap (kept-type n.block.kind) z ∙ bare-final n.block n.block.kind ∙ ap (λ (es : List Rec). final-type n.block es n.block.kind) (sym z);
      })
      ∙ ap some (sym (finals-form ns))
