-- resolver.rs, lines 419 to 452: a turn. Its jumps go to its block's entries, to the witness targets and to the round's new targets. Assumes nothing.
use Prim.Native.Nat.{ℕ, ◌+◌, ◌-◌, ◌<◌, ◌≤◌}
use native.Mathlib.Omega.{arith}
use mathlib.Core.Path.{◌≡◌, refl, sym, ap, ap₂, subst, ◌∙◌}
use mathlib.Core.Logic.{◌⊎◌, inl, inr}
use mathlib.Core.Bool.{Bool, true, false, not}
use mathlib.Core.Option.{Option, some}
use mathlib.Core.List.{List, [], ◌∷◌, ◌++◌, map, append_assoc, append-nil}
use lib.Dec.{eqb}
use lib.ListN.{length, length-append}
use borrow.Author.Tests.{eqb-true, eq-eqb, ne_eqb, le-leb}
use Rattle.spec.specs.Lists.{if, last_of, keep}
use Rattle.spec.specs.Opcodes.{Row}
use Rattle.spec.specs.Blocks.{Kind, dynamic_jump, dynamic_jumpi}
use Rattle.spec.specs.Stacks.{Stack, entry}
use Rattle.spec.specs.Search.{Node, Taker, takers, Parent, parent, direct, Found, nowhere, found, Rec, dest, dests, leads, P, S, Met, St, need, forget, Turn, in_use, turn_for, level, turn}
use Rattle.spec.specs.Ending.{entries_of}
use Rattle.laws.proofs.Branch.{both, if-true, if-false, and_then}
use Rattle.laws.proofs.Members.{In, here, there, in_right, in-cases, gather_append, gather-in}
use Rattle.laws.proofs.Lists.{Rising, one_more}
use Rattle.theorems.proofs.Counts.{Lawful}
use Rattle.source.proofs.AnyOrder.{held, targets_of}
use Rattle.source.specs.Collections.{match_option, unwrap_or, get, insert, last_unwrapped, minus}
use Rattle.source.specs.Types.{Dynamic, BlockType, DynamicJump, DynamicJumpi, RustBlock, with_type, Blocks}
use Rattle.source.specs.Shown.{to_of, jump_of, type_of, view}
use Rattle.source.specs.Reachable.{Witnesses}
use Rattle.source.specs.Resolver.{RevIdx, Resolved, resolved, get_state, resolve_dynamic_jump_path, add_targets, extend_type, change, clear_inter_state, Round, ENERGY-LIMIT, after_turn, one_turn}
use Rattle.source.proofs.Maps.{number-test, get-inserted, get_other}
use Rattle.source.proofs.Iterating.{Sized}
use Rattle.source.proofs.Mirror.{stored}
use Rattle.source.proofs.Caches.{own_of, Along, along_one, state-given}
use Rattle.source.proofs.Small.{keep_append, keep_all, keep-none, map-append}
use Rattle.source.proofs.Tables.{Sim, met-cleared, last-there}
use Rattle.source.proofs.Leveling.{Done, sim-beside, done-level}

-- the blocks with the entries that were recorded
abbrev pub shows : List Node → List Rec → Blocks
shows ns recs = map view (held ns (λ (m : Node). entries_of m.block.start recs))

abbrev pub node-starts : List Node → List ℕ
node-starts ns = map (λ (n : Node). n.block.start) ns

-- ---- lines 440 to 450: the block's entries

module _ (start : ℕ) (recs new : List Rec) (own : (x : Rec) → In x new → x.start ≡ start) where
  pub entries-more : entries_of start (recs ++ new) ≡ entries_of start recs ++ new
  entries-more =
      keep_append (λ (r : Rec). eqb start r.start) recs new
      ∙ ap (λ (l : List Rec). entries_of start recs ++ l) (keep_all (λ (r : Rec). eqb start r.start) new (λ x i. eq-eqb start x.start (sym (own x i))))

  entries-same : (a : ℕ) → ¬ (a ≡ start) → entries_of a (recs ++ new) ≡ entries_of a recs
  entries-same a ne =
      keep_append (λ (r : Rec). eqb a r.start) recs new
      ∙ ap (λ (l : List Rec). entries_of a recs ++ l) (keep-none (λ (r : Rec). eqb a r.start) new (λ x i. ne_eqb a x.start (λ e. ne (e ∙ own x i))))
      ∙ append-nil (entries_of a recs)

  abbrev shown-one : Node → List Rec → ℕ × RustBlock
  shown-one n rs = view (record { block = n.block; entries = entries_of n.block.start rs })

  one_same : (n : Node) → ¬ (n.block.start ≡ start) → shown-one n (recs ++ new) ≡ shown-one n recs
  one_same n ne = ap (λ (es : List Rec). view (record { block = n.block; entries = es })) (entries-same n.block.start ne)

  shows_same : {lo : ℕ} (ns : List Node) → Rising lo (node-starts ns) → start < lo → shows ns (recs ++ new) ≡ shows ns recs
  shows_same [] r l = refl
  shows_same (n ∷ ns) (one_more h r) l = ap₂ {C = Blocks} (λ (e : ℕ × RustBlock) (es : Blocks). e ∷ es) (one_same n (λ e. absurd (omega arith))) (shows_same ns r (omega arith))

-- a block that takes turns
pub data Turns : Kind → Type 0 where
  turns_jump : Turns dynamic_jump
  turns_jumpi : {f : ℕ} → Turns (dynamic_jumpi f)

extended : {k : Kind} → Turns k → (es new : List Rec) → extend_type (map jump_of new) (type_of k es) ≡ some (type_of k (es ++ new))
extended turns_jump es new = ap (λ (l : List Dynamic). some (DynamicJump l)) (sym (map-append jump_of es new))
extended (turns_jumpi {f}) es new = ap (λ (l : List Dynamic). some (DynamicJumpi l f)) (sym (map-append jump_of es new))

pub rises-above : {lo : ℕ} (ns : List Node) {n : Node} → Rising lo (node-starts ns) → In n ns → lo ≤ n.block.start
rises-above [] r i = elim i [ ]
rises-above (y ∷ ns) (one_more h r) here = h
rises-above (y ∷ ns) (one_more h r) (there i) = let k = rises-above ns r i in omega arith

change-step : (f : BlockType → Option BlockType) (start : ℕ) (e : ℕ × RustBlock) (es : Blocks)
    → change f start (e ∷ es) ≡ if (eqb start e.0) (and_then (f e.1.btype) (λ t. some ((e.0, with_type t e.1) ∷ es))) (and_then (change f start es) (λ more. some (e ∷ more)))
unfolding change
change-step f start e es = refl

module _ (n : Node) (turns : Turns n.block.kind) (recs new : List Rec) (own : (x : Rec) → In x new → x.start ≡ n.block.start) where
  abbrev at-start : ℕ
  at-start = n.block.start

  pub changed : {lo : ℕ} (ns : List Node) → Rising lo (node-starts ns) → In n ns → change (extend_type (map jump_of new)) at-start (shows ns recs) ≡ some (shows ns (recs ++ new))
  changed [] r i = elim i [ ]
  changed (y ∷ ns) (one_more h r) here =
      change-step (extend_type (map jump_of new)) at-start _ _
      ∙ if-true _ _ _ (eq-eqb at-start at-start refl)
      ∙ rw (extended turns (entries_of at-start recs) new, ← entries-more at-start recs new own, ← shows_same at-start recs new own ns r (omega arith)) refl
  changed (y ∷ ns) (one_more h r) (there i) =
      let k = rises-above ns r i in
      let ne : ¬ (y.block.start ≡ at-start) = λ e. absurd (omega arith) in
      change-step (extend_type (map jump_of new)) at-start _ _
      ∙ if-false _ _ _ (ne_eqb at-start y.block.start (λ e. ne (sym e)))
      ∙ rw (changed ns r i, ← one_same at-start recs new own y ne) refl

-- ---- lines 433 to 439: the witness targets, and the round's new ones

abbrev Told : Witnesses → List Rec → Type 0
Told wt recs = (w : ℕ) → unwrap_or [] (get eqb w wt) ≡ targets_of recs w

abbrev has-witness : ℕ → Rec → Bool
has-witness w r = eqb w (last_of r.path)

targets-more : (recs : List Rec) (x : Rec) (w : ℕ) → targets_of (recs ++ x ∷ []) w ≡ targets_of recs w ++ dests (keep (has-witness w) (x ∷ []))
targets-more recs x w = ap dests (keep_append (has-witness w) recs (x ∷ [])) ∙ gather_append (λ (r : Rec). dest r.to) (keep (has-witness w) recs) (keep (has-witness w) (x ∷ []))

told-nowhere : (wt : Witnesses) (recs : List Rec) (x : Rec) → x.to ≡ nowhere → Told wt recs → Told wt (recs ++ x ∷ [])
told-nowhere wt recs x e t w =
    t w ∙ sym (targets-more recs x w
    ∙ ap (λ (l : List ℕ). targets_of recs w ++ l)
    (both (λ (l : List Rec). dests l ≡ []) (has-witness w x) (λ _. ap (λ (f : Found). dest f ++ []) e) (λ _. refl))
    ∙ append-nil (targets_of recs w))

told-found : (wt : Witnesses) (recs : List Rec) (x : Rec) {to : ℕ} {s : Stack} → x.to ≡ found to s → Told wt recs
    → Told (insert eqb (last_of x.path) (unwrap_or [] (get eqb (last_of x.path) wt) ++ to ∷ []) wt) (recs ++ x ∷ [])
told-found wt recs x {to} e t w = split (eqb w (last_of x.path)) refl
  where
    v : List ℕ
    v = unwrap_or [] (get eqb (last_of x.path) wt) ++ to ∷ []

    split : (b : Bool) → eqb w (last_of x.path) ≡ b → unwrap_or [] (get eqb w (insert eqb (last_of x.path) v wt)) ≡ targets_of (recs ++ x ∷ []) w
    split true on =
        let q = eqb-true w (last_of x.path) on in
        ap (λ (y : ℕ). unwrap_or [] (get eqb y (insert eqb (last_of x.path) v wt))) q
        ∙ ap (unwrap_or []) (get-inserted number-test (last_of x.path) v wt)
        ∙ ap (λ (l : List ℕ). l ++ to ∷ []) (t (last_of x.path) ∙ ap (targets_of recs) (sym q))
        ∙ sym (targets-more recs x w ∙ ap (λ (l : List Rec). targets_of recs w ++ dests l) (if-true _ _ _ on) ∙ ap (λ (f : Found). targets_of recs w ++ (dest f ++ [])) e)
    split false off =
        ap (unwrap_or []) (get_other number-test w (last_of x.path) v wt off) ∙ t w
        ∙ sym (targets-more recs x w ∙ ap (λ (l : List Rec). targets_of recs w ++ dests l) (if-false _ _ _ off) ∙ append-nil (targets_of recs w))

record Targeted (recs new : List Rec) (nts : List ℕ) (o : Option (Witnesses × List ℕ)) : Type 0 where
  now : Witnesses
  is : o ≡ some (now, nts ++ dests new)
  told : Told now (recs ++ new)

abbrev Lasting : List Rec → Type 0
Lasting new = (x : Rec) → In x new → (to : ℕ) (s : Stack) → x.to ≡ found to s → last_unwrapped x.path ≡ some (last_of x.path)

targeted : (new recs : List Rec) (wt : Witnesses) (nts : List ℕ) → Lasting new → Told wt recs → Targeted recs new nts (add_targets (map jump_of new) wt nts)
targeted [] recs wt nts l t = record { now = wt; is = ap (λ (x : List ℕ). some (wt, x)) (sym (append-nil nts)); told = λ w. t w ∙ ap (λ (rs : List Rec). targets_of rs w) (sym (append-nil recs)) }
targeted (x ∷ new) recs wt nts l t = by x.to refl (λ wt nts t. targeted new (recs ++ x ∷ []) wt nts (λ y i. l y (there i)) t)
  where
    next : {nts : List ℕ} {more : List ℕ} {o : Option (Witnesses × List ℕ)} → dest x.to ≡ more → Targeted (recs ++ x ∷ []) new (nts ++ more) o → Targeted recs (x ∷ new) nts o
    next {nts} {more} e g = record {
      now = g.now;
      is = g.is ∙ ap (λ (l : List ℕ). some (g.now, l)) (append_assoc nts more (dests new) ∙ ap (λ (d : List ℕ). nts ++ (d ++ dests new)) (sym e));
      told = λ w. g.told w ∙ ap (λ (rs : List Rec). targets_of rs w) (append_assoc recs (x ∷ []) new);
    }

    added : {f : Found} → x.to ≡ f → add_targets (map jump_of (x ∷ new)) wt nts
        ≡ match_option (to_of f) (λ to. and_then (last_unwrapped x.path) (λ witness.
        add_targets (map jump_of new) (insert eqb witness (unwrap_or [] (get eqb witness wt) ++ to ∷ []) wt) (nts ++ to ∷ []))) (add_targets (map jump_of new) wt nts)
    added e = ap (λ (f : Found). match_option (to_of f) (λ to. and_then (last_unwrapped x.path) (λ witness.
        add_targets (map jump_of new) (insert eqb witness (unwrap_or [] (get eqb witness wt) ++ to ∷ []) wt) (nts ++ to ∷ []))) (add_targets (map jump_of new) wt nts)) e

    by : (f : Found) → x.to ≡ f → ((wt : Witnesses) (nts : List ℕ) → Told wt (recs ++ x ∷ []) → Targeted (recs ++ x ∷ []) new nts (add_targets (map jump_of new) wt nts))
        → Targeted recs (x ∷ new) nts (add_targets (map jump_of (x ∷ new)) wt nts)
    by nowhere e ih =
        subst (Targeted recs (x ∷ new) nts) (sym (added e))
        (next (ap dest e) (subst (λ (l : List ℕ). Targeted (recs ++ x ∷ []) new l (add_targets (map jump_of new) wt nts)) (sym (append-nil nts)) (ih wt nts (told-nowhere wt recs x e t))))
    by (found to s) e ih =
        subst (Targeted recs (x ∷ new) nts)
        (sym (added e ∙ ap (λ (o : Option ℕ). and_then o (λ witness. add_targets (map jump_of new) (insert eqb witness (unwrap_or [] (get eqb witness wt) ++ to ∷ []) wt) (nts ++ to ∷ []))) (l x here to s e)))
        (next (ap dest e) (ih (insert eqb (last_of x.path) (unwrap_or [] (get eqb (last_of x.path) wt) ++ to ∷ []) wt) (nts ++ to ∷ []) (told-found wt recs x e t)))

-- ---- lines 419 to 452: a turn

-- what is fixed in a round, whoever's turn it is
abbrev pub base : List Node → List ℕ → Turn
base ns reached = record { stored = direct ns; reached = reached; start = 0; first = entry }

pub sim-turn : {row : ℕ → Row} {code : List ℕ} {c d : Turn} {recs : List Rec} {met : List Met} {r : RevIdx} → c.stored ≡ d.stored → c.reached ≡ d.reached → Sim row code c recs met r → Sim row code d recs met r
sim-turn {row} {code} {c} {d} {recs} {met} {r} p q h =
    subst (λ (x : List Parent). Sim row code (record { stored = x; reached = d.reached; start = d.start; first = d.first }) recs met r) p
    (subst (λ (y : List ℕ). Sim row code (record { stored = c.stored; reached = y; start = d.start; first = d.first }) recs met r) q
    (record { cached = h.cached; table = h.table; inter = h.inter; bad = h.bad; live = h.live; along = h.along; short = h.short }))

module _ (row : ℕ → Row) (code : List ℕ) (ns : List Node) where
  -- how the round's locals stand beside the state, in a round that began with `older`
  pub record Stands (older : List Rec) (reached : List ℕ) (s : St) (o : Round) : Type 0 where
    pub new : List Rec
    pub grown : s.recs ≡ older ++ new
    pub clear : s.met ≡ []
    pub sim : Sim row code (base ns reached) s.recs [] o.idx
    pub blocks_are : o.blocks ≡ shows ns s.recs
    pub energy-is : o.total_energy_used ≡ s.energy
    pub told : Told o.witness_targets s.recs
    pub targets-are : o.new_targets ≡ dests new
    pub found-is : o.found_new_paths ≡ not (eqb (length new) 0)
    pub taken : (x : Rec) → In x s.recs → (k : Taker) × In k (takers ns) × (x.start ≡ k.start)

  pub record Took (older : List Rec) (reached : List ℕ) (t : St) (o : Option Round) : Type 0 where
    pub next : Round
    pub is : o ≡ some next
    pub stands : Stands older reached t next

turn_is : (limit : ℕ) (c : Turn) (pos : ℕ) (s : St)
    → turn limit c pos s ≡ forget (level limit c 255 (record { path = c.start ∷ []; position = pos; state = c.first }) (need S (in_use c s) (need P 1 s)))
unfolding turn
turn_is limit c pos s = refl

turn_step : (row : ℕ → Row) (code : List ℕ) (start pos : ℕ) (o : Round)
    → one_turn row code start pos o
    ≡ and_then (get_state row code start o.idx) (λ g.
    and_then (minus ENERGY-LIMIT o.total_energy_used) (λ limit.
    and_then (resolve_dynamic_jump_path row code 256 g.idx (start ∷ []) 1 pos g.value limit) (λ t. after_turn start o t)))
unfolding one_turn
turn_step row code start pos o = refl

module _ (row : ℕ → Row) (code : List ℕ) (ns : List Node) (rises : Rising 0 (node-starts ns)) where
  -- a record's path is not empty
  lasting : {c : Turn} {recs : List Rec} {met : List Met} {r : RevIdx} → Sim row code c recs met r → Lasting recs
  lasting {c} {recs} h x i to s e =
      last-there (h.along (parent to x.path s)
      (in_right c.stored (gather-in (λ (y : Rec). leads y.path y.to) i (subst (λ (f : Found). In (parent to x.path s) (leads x.path f)) (sym e) here))))

  -- after the turn of the block at n
  module _ (k : Taker) (i : In k (takers ns)) (n : Node) (j : In n ns) (turns : Turns n.block.kind) (e : k.start ≡ n.block.start)
      (older : List Rec) (reached : List ℕ) (s : St) (o : Round) (st : Stands row code ns older reached s o) (t : St) (q : Option Resolved)
      (d : Done row code (turn_for (direct ns) reached k) s.recs s.energy t q) where
    all-taken : (x : Rec) → In x t.recs → (k : Taker) × In k (takers ns) × (x.start ≡ k.start)
    all-taken x h = split (in-cases s.recs (subst (In x) d.recorded h))
      where
        split : In x s.recs ⊎ In x d.new → (k : Taker) × In k (takers ns) × (x.start ≡ k.start)
        split (inl a) = st.taken x a
        split (inr a) = (k, i, d.own_start x a)

    grown-records : t.recs ≡ older ++ (st.new ++ d.new)
    grown-records = d.recorded ∙ ap (λ (l : List Rec). l ++ d.new) st.grown ∙ append_assoc older st.new d.new

    cleared : Sim row code (base ns reached) t.recs [] (clear_inter_state d.idx)
    cleared = sim-turn {c = turn_for (direct ns) reached k} {d = base ns reached} refl refl (met-cleared row code (turn_for (direct ns) reached k) t.recs t.met d.idx d.sim)

    new-lasting : Lasting d.new
    new-lasting x a = lasting d.sim x (subst (In x) (sym d.recorded) (in_right s.recs a))

    g : Targeted s.recs d.new o.new_targets (add_targets (map jump_of d.new) o.witness_targets o.new_targets)
    g = targeted d.new s.recs o.witness_targets o.new_targets new-lasting st.told

    extended-blocks : change (extend_type (map jump_of d.new)) k.start o.blocks ≡ some (shows ns t.recs)
    extended-blocks =
        ap₂ (change (extend_type (map jump_of d.new))) e st.blocks_are
        ∙ changed n turns s.recs d.new (λ x a. d.own_start x a ∙ e) ns rises j
        ∙ ap (λ (l : List Rec). some (shows ns l)) (sym d.recorded)

    after-found : (x : Rec) (xs : List Rec) → d.new ≡ x ∷ xs
        → Took row code ns older reached (forget t) (after_turn k.start o (record { idx = d.idx; jumps = map jump_of d.new; used = d.used }))
    unfolding after_turn
    after-found x xs f = record {
      next = record { idx = clear_inter_state d.idx; blocks = shows ns t.recs; total_energy_used = o.total_energy_used + d.used; witness_targets = g.now; found_new_paths = true; new_targets = o.new_targets ++ dests d.new };
      is = if-false _ _ _ (ne_eqb (length (map jump_of d.new)) 0 (λ z. absurd (omega (arith, ap (λ (l : List Rec). length (map jump_of l)) f)))) ∙ rw (g.is, extended-blocks) refl;
      stands = record {
        new = st.new ++ d.new;
        grown = grown-records;
        clear = refl;
        sim = cleared;
        blocks_are = refl;
        energy-is = omega (arith, st.energy-is, d.counted);
        told = λ w. g.told w ∙ ap (λ (rs : List Rec). targets_of rs w) (sym d.recorded);
        targets-are = ap (λ (l : List ℕ). l ++ dests d.new) st.targets-are ∙ sym (gather_append (λ (r : Rec). dest r.to) st.new d.new);
        found-is = sym (ap not (ne_eqb (length (st.new ++ d.new)) 0 (λ z. absurd (omega (arith, length-append st.new d.new, ap length f)))));
        taken = all-taken;
      };
    }

    after-idle : d.new ≡ [] → Took row code ns older reached (forget t) (after_turn k.start o (record { idx = d.idx; jumps = map jump_of d.new; used = d.used }))
    unfolding after_turn
    after-idle f =
        let same : t.recs ≡ s.recs = d.recorded ∙ ap (λ (l : List Rec). s.recs ++ l) f ∙ append-nil s.recs in
        record {
          next = record { idx = clear_inter_state d.idx; blocks = o.blocks; total_energy_used = o.total_energy_used + d.used; witness_targets = o.witness_targets; found_new_paths = o.found_new_paths; new_targets = o.new_targets };
          is = if-true _ _ _ (eq-eqb (length (map jump_of d.new)) 0 (ap (λ (l : List Rec). length (map jump_of l)) f));
          stands = record {
            new = st.new;
            grown = same ∙ st.grown;
            clear = refl;
            sim = cleared;
            blocks_are = st.blocks_are ∙ ap (shows ns) (sym same);
            energy-is = omega (arith, st.energy-is, d.counted);
            told = λ w. st.told w ∙ ap (λ (rs : List Rec). targets_of rs w) (sym same);
            targets-are = st.targets-are;
            found-is = st.found-is;
            taken = all-taken;
          };
        }

    pub after_any : Took row code ns older reached (forget t) (after_turn k.start o (record { idx = d.idx; jumps = map jump_of d.new; used = d.used }))
    after_any = split d.new refl
      where
        split : (l : List Rec) → d.new ≡ l → Took row code ns older reached (forget t) (after_turn k.start o (record { idx = d.idx; jumps = map jump_of d.new; used = d.used }))
        split [] f = after-idle f
        split (x ∷ xs) f = after-found x xs f

module _ {row : ℕ → Row} (ok : Lawful row) (sized : Sized row) (code : List ℕ) (ns : List Node) (rises : Rising 0 (node-starts ns)) where
  pub turn-taken : (k : Taker) → In k (takers ns) → (n : Node) → In n ns → Turns n.block.kind → k.start ≡ n.block.start → k.first ≡ own_of row code k.start
      → (older : List Rec) (reached : List ℕ) (s : St) (o : Round) → Stands row code ns older reached s o → s.energy < ENERGY-LIMIT
      → Took row code ns older reached (turn ENERGY-LIMIT (turn_for (direct ns) reached k) k.position s) (one_turn row code k.start k.position o)
  turn-taken k i n j turns e f older reached s o st l =
      let c = turn_for (direct ns) reached k in
      let g = state-given ok sized code k.start o.idx st.sim.cached in
      let t = need S (in_use c s) (need P 1 s) in
      let sim : Sim row code c s.recs s.met g.idx
      = sim-beside (subst (λ (m : List Met). Sim row code c s.recs m o.idx) (sym st.clear) (sim-turn {c = base ns reached} {d = c} refl refl st.sim)) g.beside in
      let a : Along row code (k.start ∷ []) k.first = subst (Along row code (k.start ∷ [])) (sym f) (along_one row code k.start) in
      let left : minus ENERGY-LIMIT o.total_energy_used ≡ some (ENERGY-LIMIT - o.total_energy_used) = if-true _ _ _ (le-leb o.total_energy_used ENERGY-LIMIT (omega (arith, st.energy-is))) in
      let d = done-level ok sized code c ENERGY-LIMIT 255 1 refl (record { path = k.start ∷ []; position = k.position; state = k.first }) t g.idx (ENERGY-LIMIT - o.total_energy_used) sim a (omega (arith, st.energy-is)) in
      let w = after_any row code ns rises k i n j turns e older reached s o st _ _ d in
      record {
        next = w.next;
        is = turn_step row code k.start k.position o
            ∙ ap (λ (x : Option (Rattle.source.specs.Resolver.Got (List Rattle.spec.specs.Stacks.Sym))). and_then x (λ g. and_then (minus ENERGY-LIMIT o.total_energy_used) (λ limit. and_then (resolve_dynamic_jump_path row code 256 g.idx (k.start ∷ []) 1 k.position g.value limit) (λ t. after_turn k.start o t)))) g.is
            ∙ ap (λ (x : Option ℕ). and_then x (λ limit. and_then (resolve_dynamic_jump_path row code 256 g.idx (k.start ∷ []) 1 k.position (stored (own_of row code k.start)) limit) (λ t. after_turn k.start o t))) left
            ∙ ap (λ (x : Stack). and_then (resolve_dynamic_jump_path row code 256 g.idx (k.start ∷ []) 1 k.position (stored x) (ENERGY-LIMIT - o.total_energy_used)) (λ t. after_turn k.start o t)) (sym f)
            ∙ ap (λ (x : Option Resolved). and_then x (λ t. after_turn k.start o t)) d.is ∙ w.is;
        stands = subst (λ (u : St). Stands row code ns older reached u w.next) (sym (turn_is ENERGY-LIMIT c k.position s)) w.stands;
      }
