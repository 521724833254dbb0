-- resolver.rs, lines 81 to 146: what the tables of the index tell beside the definitions' record and what was met. Assumes nothing.
use Prim.Native.Nat.{ℕ}
use native.Mathlib.Omega.{arith}
use mathlib.Core.Path.{◌≡◌, refl, sym, ap, ap₂, subst, ◌∙◌}
use mathlib.Core.Logic.{◌⊎◌, inl, inr}
use mathlib.Core.Bool.{Bool, true, false, not, ◌&&◌, ◌||◌, or_assoc, or_comm, or-false, and-false}
use mathlib.Core.Option.{Option, none, some}
use mathlib.Core.List.{List, [], ◌∷◌, ◌++◌, map, append_assoc, append-nil}
use lib.Dec.{eqb}
use lib.ListN.{length}
use borrow.Author.Tests.{eqb-true, eq-eqb}
use Rattle.spec.specs.Lists.{if, mem, same, last_of, keep, some?}
use Rattle.spec.specs.Opcodes.{Row}
use Rattle.spec.specs.Stacks.{Sym, Stack, eq_sym, eq_syms, eq_stack}
use Rattle.spec.specs.Search.{Parent, parent, Found, nowhere, found, Rec, is_at, is_nowhere, dest, dests, leads, found_parents, Met, Turn}
use Rattle.laws.proofs.Branch.{both, if-true, if-false}
use Rattle.laws.proofs.Members.{In, here, there, and_both, or_right, in_some, in-cases, in-only, gather_append, mem-append, in_mem, gather-in}
use Rattle.source.specs.Collections.{match_option, unwrap_or, get, contains_key, insert, set_insert, last_unwrapped}
use Rattle.source.specs.State.{State}
use Rattle.source.specs.Resolver.{Parents, Inter, RevIdx, Got, with_parents, with_istate, with_badpaths, set_reachable0, path_in, filter_parents, get_parents, inter_set, add_inter_state}
use Rattle.source.proofs.Maps.{number-test, path-test, symbol-test, state-test, get-inserted, get_other}
use Rattle.source.proofs.Caches.{Along, Cached}
use Rattle.source.proofs.Small.{some-append, keep_append, map-append}
use Rattle.source.proofs.Mirror.{stored, same-stored}

-- ---- what the tables are to tell

-- a parent as the table has it
abbrev pub entry_of : Parent → List ℕ × State
entry_of p = (p.path, stored p.stack)

-- the combination of last block, state and symbol is in `istate`
abbrev pub known : List (ℕ × Inter) → ℕ → State → Sym → Bool
known istate last x sym = match_option (get eq_syms x (unwrap_or [] (get eqb last istate))) (some? (eq_sym sym)) false

-- it was met
abbrev pub was-met : List Met → ℕ → Stack → Sym → Bool
was-met met last x sym = some? (λ (n : Met). eqb last n.last && eq_sym sym n.symbol && eq_stack x n.stack) met

abbrev pub bad? : List ℕ → Rec → Bool
bad? path x = is_nowhere x.to && same path x.path

abbrev pub found? : ℕ → List ℕ → Rec → Bool
found? to path x = is_at to x.to && same path x.path

abbrev pub all-parents : Turn → List Rec → List Parent
all-parents c recs = c.stored ++ found_parents recs

abbrev pub at_block : ℕ → List Parent → List Parent
at_block to ps = keep (λ (p : Parent). eqb to p.to) ps

pub record Sim (row : ℕ → Row) (code : List ℕ) (c : Turn) (recs : List Rec) (met : List Met) (r : RevIdx) : Type 0 where
  pub cached : Cached row code r
  pub table : (to : ℕ) → unwrap_or [] (get eqb to r.parents) ≡ map entry_of (at_block to (all-parents c recs))
  pub inter : (last : ℕ) (x : Stack) (sym : Sym) → known r.istate last (stored x) sym ≡ was-met met last x sym
  pub bad : (path : List ℕ) → path_in path r.badpaths ≡ some? (bad? path) recs
  pub live : (a : ℕ) → mem a r.reachable0 ≡ mem a c.reached || mem a (dests recs)
  pub along : (p : Parent) → In p (all-parents c recs) → Along row code p.path p.stack
  pub short : (p : Parent) → In p c.stored → length p.path ≡ 1

-- ---- lines 102 to 108: bad paths

dests-nowhere : (recs : List Rec) (x : Rec) → x.to ≡ nowhere → dests (recs ++ x ∷ []) ≡ dests recs
dests-nowhere recs x e = gather_append (λ (x : Rec). dest x.to) recs (x ∷ []) ∙ ap (λ (f : Found). dests recs ++ (dest f ++ [])) e ∙ append-nil (dests recs)

parents-nowhere : (recs : List Rec) (x : Rec) → x.to ≡ nowhere → found_parents (recs ++ x ∷ []) ≡ found_parents recs
parents-nowhere recs x e =
    gather_append (λ (x : Rec). leads x.path x.to) recs (x ∷ []) ∙ ap (λ (f : Found). found_parents recs ++ (leads x.path f ++ [])) e ∙ append-nil (found_parents recs)

module _ (row : ℕ → Row) (code : List ℕ) (c : Turn) (recs : List Rec) (met : List Met) (r : RevIdx) (h : Sim row code c recs met r) where
  pub bad-added : (x : Rec) → x.to ≡ nowhere → Sim row code c (recs ++ x ∷ []) met (with_badpaths (x.path ∷ r.badpaths) r)
  bad-added x e = record {
    cached = record { shallow = h.cached.shallow; deep = h.cached.deep; replayed = h.cached.replayed };
    table = λ to. h.table to ∙ ap (λ (ps : List Parent). map entry_of (at_block to (c.stored ++ ps))) (sym (parents-nowhere recs x e));
    inter = h.inter;
    bad = λ path. ap (λ (b : Bool). same path x.path || b) (h.bad path) ∙ or_comm (same path x.path) (some? (bad? path) recs)
        ∙ ap (λ (b : Bool). some? (bad? path) recs || b) (sym (or-false (same path x.path) ∙ refl) ∙ ap (λ (f : Found). (is_nowhere f && same path x.path) || false) (sym e))
        ∙ sym (some-append (bad? path) recs (x ∷ []));
    live = λ a. h.live a ∙ ap (λ (l : List ℕ). mem a c.reached || mem a l) (sym (dests-nowhere recs x e));
    along = λ p i. h.along p (subst (λ (ps : List Parent). In p (c.stored ++ ps)) (parents-nowhere recs x e) i);
    short = h.short;
  }

-- ---- lines 81 to 100: a path's parent

if-or : (b x : Bool) → if b true x ≡ b || x
if-or b x = both (λ (y : Bool). y ≡ b || x) b (λ on. sym (ap (λ (t : Bool). t || x) on)) (λ off. sym (ap (λ (t : Bool). t || x) off))

pub contains-entries : (path : List ℕ) (ps : List Parent) → contains_key same path (map entry_of ps) ≡ some? (λ (p : Parent). same path p.path) ps
contains-entries path [] = refl
contains-entries path (p ∷ ps) = if-or (same path p.path) _ ∙ ap (λ (b : Bool). same path p.path || b) (contains-entries path ps)

pub insert-new : {K W : Type 0} (same_key : K → K → Bool) (k : K) (v : W) (m : List (K × W)) → contains_key same_key k m ≡ false → insert same_key k v m ≡ m ++ (k, v) ∷ []
insert-new same_key k v [] e = refl
insert-new {K} {W} same_key k v (x ∷ xs) e = split (same_key k x.0) refl (insert-new same_key k v xs)
  where
    split : (b : Bool) → same_key k x.0 ≡ b → (contains_key same_key k xs ≡ false → insert same_key k v xs ≡ xs ++ (k, v) ∷ [])
        → insert same_key k v (x ∷ xs) ≡ x ∷ xs ++ (k, v) ∷ []
    split true on ih = let z : true ≡ false = sym (if-true _ _ _ on) ∙ e in cc
    split false off ih = if-false _ _ _ off ∙ ap {B = List (K × W)} (λ (l : List (K × W)). x ∷ l) (ih (sym (if-false _ _ _ off) ∙ e))

some-keep : {A : Type 0} (f g : A → Bool) (xs : List A) → some? g (keep f xs) ≡ some? (λ (x : A). f x && g x) xs
some-keep f g [] = refl
some-keep {A} f g (x ∷ xs) =
    both (λ (l : List A). some? g l ≡ (f x && g x) || some? (λ (x : A). f x && g x) xs) (f x)
    (λ on. ap (λ (b : Bool). g x || b) (some-keep f g xs) ∙ ap (λ (t : Bool). (t && g x) || some? (λ (x : A). f x && g x) xs) (sym on))
    (λ off. some-keep f g xs ∙ ap (λ (t : Bool). (t && g x) || some? (λ (x : A). f x && g x) xs) (sym off))

pub none-some : {A : Type 0} (f : A → Bool) (xs : List A) → ((x : A) → In x xs → f x ≡ false) → some? f xs ≡ false
none-some f [] h = refl
none-some f (x ∷ xs) h = ap₂ ◌||◌ (h x here) (none-some f xs (λ y i. h y (there i)))

abbrev to-path : ℕ → List ℕ → Parent → Bool
to-path to path p = eqb to p.to && same path p.path

lead-found : (to : ℕ) (path q : List ℕ) (f : Found) → some? (to-path to path) (leads q f) ≡ is_at to f && same path q
lead-found to path q nowhere = refl
lead-found to path q (found u s) = or-false (eqb to u && same path q)

parents-found : (to : ℕ) (path : List ℕ) (recs : List Rec) → some? (to-path to path) (found_parents recs) ≡ some? (found? to path) recs
parents-found to path [] = refl
parents-found to path (x ∷ xs) =
    some-append (to-path to path) (leads x.path x.to) (found_parents xs) ∙ ap₂ ◌||◌ (lead-found to path x.path x.to) (parents-found to path xs)

differ : (path q : List ℕ) → ¬ (length path ≡ length q) → same path q ≡ false
differ path q ne = split (same path q) refl
  where
    split : (b : Bool) → same path q ≡ b → same path q ≡ false
    split true on = absurd (ne (ap length (path-test.equal path q on)))
    split false off = off

-- a set with one more
pub mem-inserted : (a to : ℕ) (set : List ℕ) → mem a (set_insert to set) ≡ eqb a to || mem a set
mem-inserted a to set = both (λ (l : List ℕ). mem a l ≡ eqb a to || mem a set) (mem to set) (λ on. split (eqb a to) refl on) (λ _. refl)
  where
    split : (b : Bool) → eqb a to ≡ b → mem to set ≡ true → mem a set ≡ eqb a to || mem a set
    split true e on = ap (λ (x : ℕ). mem x set) (eqb-true a to e) ∙ on ∙ sym (ap (λ (t : Bool). t || mem a set) e)
    split false e on = sym (ap (λ (t : Bool). t || mem a set) e)

dests-found : (recs : List Rec) (x : Rec) {to : ℕ} {s : Stack} → x.to ≡ found to s → dests (recs ++ x ∷ []) ≡ dests recs ++ to ∷ []
dests-found recs x e = gather_append (λ (x : Rec). dest x.to) recs (x ∷ []) ∙ ap (λ (f : Found). dests recs ++ (dest f ++ [])) e

parents-more : (recs : List Rec) (x : Rec) {to : ℕ} {s : Stack} → x.to ≡ found to s → found_parents (recs ++ x ∷ []) ≡ found_parents recs ++ parent to x.path s ∷ []
parents-more recs x e = gather_append (λ (x : Rec). leads x.path x.to) recs (x ∷ []) ∙ ap (λ (f : Found). found_parents recs ++ (leads x.path f ++ [])) e

-- a record with this destination tells that it is reached
found-dest : (to : ℕ) (path : List ℕ) (recs : List Rec) → some? (found? to path) recs ≡ true → mem to (dests recs) ≡ true
found-dest to path recs e =
    let g = in_some (found? to path) recs e in
    in_mem to (gather-in (λ (x : Rec). dest x.to) g.1 (at g.0.to (and_both (is_at to g.0.to) _ g.2).0))
  where
    at : (f : Found) → is_at to f ≡ true → In to (dest f)
    at nowhere on = let z : ◌≡◌ {A = ℕ} 0 1 = cc in absurd (omega arith)
    at (found u s) on = subst (λ (x : ℕ). In to (x ∷ [])) (eqb-true to u on) here

module _ (row : ℕ → Row) (code : List ℕ) (c : Turn) (recs : List Rec) (met : List Met) (r : RevIdx) (h : Sim row code c recs met r) (to : ℕ) (path : List ℕ) where
  abbrev entry : Parents
  entry = unwrap_or [] (get eqb to r.parents)

  -- lines 94 to 97: direct parents have one block, and the path two or more
  pub contains-found : ¬ (length path ≡ 1) → contains_key same path entry ≡ some? (found? to path) recs
  contains-found long =
      ap (contains_key same path) (h.table to)
      ∙ contains-entries path (at_block to (all-parents c recs))
      ∙ some-keep (λ (p : Parent). eqb to p.to) (λ (p : Parent). same path p.path) (all-parents c recs)
      ∙ some-append (to-path to path) c.stored (found_parents recs)
      ∙ ap₂ ◌||◌ (none-some (to-path to path) c.stored (λ p i. ap (λ (b : Bool). eqb to p.to && b) (differ path p.path (λ e. long (e ∙ h.short p i))) ∙ and-false (eqb to p.to)))
      (parents-found to path recs)

  abbrev reached-too : RevIdx
  reached-too = set_reachable0 (set_insert to r.reachable0) r

  -- the path is there
  pub parent-there : some? (found? to path) recs ≡ true → Sim row code c recs met (with_parents (insert eqb to entry r.parents) reached-too)
  parent-there on = record {
    cached = record { shallow = h.cached.shallow; deep = h.cached.deep; replayed = h.cached.replayed };
    table = λ k. same-table k (eqb k to) refl;
    inter = h.inter;
    bad = h.bad;
    live = λ a. mem-inserted a to r.reachable0 ∙ same_live a (eqb a to) refl ∙ h.live a;
    along = h.along;
    short = h.short;
  }
    where
      same-table : (k : ℕ) (b : Bool) → eqb k to ≡ b → unwrap_or [] (get eqb k (insert eqb to entry r.parents)) ≡ map entry_of (at_block k (all-parents c recs))
      same-table k true e =
          let q = eqb-true k to e in
          ap (λ (x : ℕ). unwrap_or [] (get eqb x (insert eqb to entry r.parents))) q ∙ ap (unwrap_or []) (get-inserted number-test to entry r.parents) ∙ ap (λ (x : ℕ). unwrap_or [] (get eqb x r.parents)) (sym q) ∙ h.table k
      same-table k false e = ap (unwrap_or []) (get_other number-test k to entry r.parents e) ∙ h.table k

      same_live : (a : ℕ) (b : Bool) → eqb a to ≡ b → eqb a to || mem a r.reachable0 ≡ mem a r.reachable0
      same_live a true e =
          ap (λ (t : Bool). t || mem a r.reachable0) e
          ∙ sym (h.live a ∙ or_right (mem a c.reached) _ (ap (λ (x : ℕ). mem x (dests recs)) (eqb-true a to e) ∙ found-dest to path recs on))
      same_live a false e = ap (λ (t : Bool). t || mem a r.reachable0) e

  -- it is new
  module _ (s : Stack) (a : Along row code path s) (new : contains_key same path entry ≡ false) (x : Rec) (x-to : x.to ≡ found to s) (x-path : x.path ≡ path) where
    all_more : all-parents c (recs ++ x ∷ []) ≡ all-parents c recs ++ parent to path s ∷ []
    all_more =
        ap (λ (ps : List Parent). c.stored ++ ps) (parents-more recs x x-to)
        ∙ ap (λ (q : List ℕ). c.stored ++ (found_parents recs ++ parent to q s ∷ [])) x-path
        ∙ sym (append_assoc c.stored (found_parents recs) (parent to path s ∷ []))

    at_more : (k : ℕ) → at_block k (all-parents c (recs ++ x ∷ [])) ≡ at_block k (all-parents c recs) ++ at_block k (parent to path s ∷ [])
    at_more k = ap (at_block k) all_more ∙ keep_append (λ (p : Parent). eqb k p.to) (all-parents c recs) (parent to path s ∷ [])

    new-entry : Parents
    new-entry = insert same path (stored s) entry

    entry_more : new-entry ≡ map entry_of (at_block to (all-parents c (recs ++ x ∷ [])))
    unfolding new-entry
    entry_more =
        insert-new same path (stored s) entry new
        ∙ ap (λ (l : Parents). l ++ (path, stored s) ∷ []) (h.table to)
        ∙ sym (ap (map entry_of) (at_more to ∙ ap (λ (l : List Parent). at_block to (all-parents c recs) ++ l) (if-true _ _ _ (eq-eqb to to refl)))
        ∙ map-append entry_of (at_block to (all-parents c recs)) (parent to path s ∷ []))

    table_more : (k : ℕ) (b : Bool) → eqb k to ≡ b → unwrap_or [] (get eqb k (insert eqb to new-entry r.parents)) ≡ map entry_of (at_block k (all-parents c (recs ++ x ∷ [])))
    table_more k true e =
        let q = eqb-true k to e in
        ap (λ (y : ℕ). unwrap_or [] (get eqb y (insert eqb to new-entry r.parents))) q ∙ ap (unwrap_or []) (get-inserted number-test to new-entry r.parents) ∙ entry_more
        ∙ ap (λ (y : ℕ). map entry_of (at_block y (all-parents c (recs ++ x ∷ [])))) (sym q)
    table_more k false e =
        ap (unwrap_or []) (get_other number-test k to new-entry r.parents e) ∙ h.table k
        ∙ sym (ap (map entry_of) (at_more k ∙ ap (λ (l : List Parent). at_block k (all-parents c recs) ++ l) (if-false _ _ _ e) ∙ append-nil (at_block k (all-parents c recs))))

    pub parent-put : Sim row code c (recs ++ x ∷ []) met (with_parents (insert eqb to (insert same path (stored s) entry) r.parents) reached-too)
    unfolding new-entry
    parent-put = record {
      cached = record { shallow = h.cached.shallow; deep = h.cached.deep; replayed = h.cached.replayed };
      table = λ k. table_more k (eqb k to) refl;
      inter = h.inter;
      bad = λ q. h.bad q ∙ sym (or-false (some? (bad? q) recs)) ∙ ap (λ (b : Bool). some? (bad? q) recs || b) (ap (λ (f : Found). (is_nowhere f && same q x.path) || false) (sym x-to)) ∙ sym (some-append (bad? q) recs (x ∷ []));
      live = λ b. mem-inserted b to r.reachable0 ∙ ap (λ (t : Bool). eqb b to || t) (h.live b) ∙ or_comm (eqb b to) _ ∙ or_assoc (mem b c.reached) (mem b (dests recs)) (eqb b to)
          ∙ ap (λ (t : Bool). mem b c.reached || t) (ap (λ (t : Bool). mem b (dests recs) || t) (sym (or-false (eqb b to))) ∙ sym (mem-append b (dests recs) (to ∷ [])) ∙ ap (mem b) (sym (dests-found recs x x-to)));
      along = λ p i. on p (in-cases (all-parents c recs) (subst (In p) all_more i));
      short = h.short;
    }
      where
        on : (p : Parent) → In p (all-parents c recs) ⊎ In p (parent to path s ∷ []) → Along row code p.path p.stack
        on p (inl i) = h.along p i
        on p (inr i) = subst (λ (q : Parent). Along row code q.path q.stack) (sym (in-only i)) a

true-right : (b : Bool) → b && true ≡ b
true-right true = refl
true-right false = refl

-- ---- lines 131 to 146: what was met

module _ (istate : List (ℕ × Inter)) (last : ℕ) (state : State) (jmp : Sym) where
  abbrev inters : Inter
  inters = unwrap_or [] (get eqb last istate)

  -- the symbols held for a state
  abbrev holds? : Inter → State → Sym → Bool
  holds? m x sym = match_option (get eq_syms x m) (some? (eq_sym sym)) false

  -- this combination
  abbrev combination : ℕ → State → Sym → Bool
  combination l x sym = eqb l last && eq_sym sym jmp && eq_syms x state

  known-here : (m : Inter) (l : ℕ) (x : State) (sym : Sym) → eqb l last ≡ true → known (insert eqb last m istate) l x sym ≡ holds? m x sym
  known-here m l x y e =
      ap (λ (k : ℕ). known (insert eqb last m istate) k x y) (eqb-true l last e)
      ∙ ap (λ (o : Option Inter). holds? (unwrap_or [] o) x y) (get-inserted number-test last m istate)

  known-elsewhere : (m : Inter) (l : ℕ) (x : State) (sym : Sym) → eqb l last ≡ false → known (insert eqb last m istate) l x sym ≡ known istate l x sym
  known-elsewhere m l x y e = ap (λ (o : Option Inter). holds? (unwrap_or [] o) x y) (get_other number-test l last m istate e)

  -- of the symbols for the state, with jmp
  module _ (news : List Sym) (with-jmp : (sym : Sym) → some? (eq_sym sym) news ≡ eq_sym sym jmp || holds? inters state sym) where
    put-here : (x : State) (y : Sym) (b : Bool) → eq_syms x state ≡ b → holds? (insert eq_syms state news inters) x y ≡ (eq_sym y jmp && b) || holds? inters x y
    put-here x y true e =
        let q = state-test.equal x state e in
        ap (λ (z : State). holds? (insert eq_syms state news inters) z y) q
        ∙ ap (λ (o : Option (List Sym)). match_option o (some? (eq_sym y)) false) (get-inserted state-test state news inters)
        ∙ with-jmp y ∙ ap₂ ◌||◌ (sym (true-right (eq_sym y jmp))) (ap (λ (z : State). holds? inters z y) (sym q))
    put-here x y false e =
        ap (λ (o : Option (List Sym)). match_option o (some? (eq_sym y)) false) (get_other state-test x state news inters e)
        ∙ ap (λ (b : Bool). b || holds? inters x y) (sym (and-false (eq_sym y jmp)))

    pub put-known : (l : ℕ) (x : State) (y : Sym) → known (insert eqb last (insert eq_syms state news inters) istate) l x y ≡ combination l x y || known istate l x y
    put-known l x y = split (eqb l last) refl
      where
        split : (b : Bool) → eqb l last ≡ b → known (insert eqb last (insert eq_syms state news inters) istate) l x y ≡ combination l x y || known istate l x y
        split true e =
            known-here (insert eq_syms state news inters) l x y e ∙ put-here x y (eq_syms x state) refl
            ∙ ap₂ (λ (t : Bool) (k : ℕ). (t && eq_sym y jmp && eq_syms x state) || known istate k x y) (sym e) (sym (eqb-true l last e))
        split false e = known-elsewhere _ l x y e ∙ ap (λ (t : Bool). (t && eq_sym y jmp && eq_syms x state) || known istate l x y) (sym e)

  -- nothing is put where it is there
  there-known : holds? inters state jmp ≡ true → (l : ℕ) (x : State) (y : Sym) → known (insert eqb last inters istate) l x y ≡ combination l x y || known istate l x y
  there-known on l x y = split (eqb l last) refl
    where
      covered : (b : Bool) → combination l x y ≡ b → known istate l x y ≡ combination l x y || known istate l x y
      covered true e =
          let outer = and_both (eqb l last && eq_sym y jmp) (eq_syms x state) e in
          let inner = and_both (eqb l last) (eq_sym y jmp) outer.0 in
          let p = eqb-true l last inner.0 in
          let q = symbol-test.equal y jmp inner.1 in
          let z = state-test.equal x state outer.1 in
          (λ i. known istate (p i) (z i) (q i)) ∙ on ∙ sym (ap (λ (t : Bool). t || known istate l x y) e)
      covered false e = sym (ap (λ (t : Bool). t || known istate l x y) e)

      split : (b : Bool) → eqb l last ≡ b → known (insert eqb last inters istate) l x y ≡ combination l x y || known istate l x y
      split true e = known-here inters l x y e ∙ ap (λ (k : ℕ). known istate k x y) (sym (eqb-true l last e)) ∙ covered (combination l x y) refl
      split false e = known-elsewhere inters l x y e ∙ covered (combination l x y) refl

-- lines 131 to 142: the symbols held are those before and this one; true is returned if it is new
pub record Enters (r : RevIdx) (last : ℕ) (state : State) (jmp : Sym) (g : Got Bool) : Type 0 where
  pub now : List (ℕ × Inter)
  pub idx_is : g.idx ≡ with_istate now r
  pub value_is : g.value ≡ not (known r.istate last state jmp)
  pub tells : (l : ℕ) (x : State) (y : Sym) → known now l x y ≡ (eqb l last && eq_sym y jmp && eq_syms x state) || known r.istate l x y

pub enters : (last : ℕ) (state : State) (jmp : Sym) (r : RevIdx) → Enters r last state jmp (add_inter_state last state jmp r)
unfolding add_inter_state
enters last state jmp r = split (get eq_syms state m) refl
  where
    m : Inter
    m = unwrap_or [] (get eqb last r.istate)

    told : (st : List Sym) → get eq_syms state m ≡ some st → (y : Sym) → match_option (get eq_syms state m) (some? (eq_sym y)) false ≡ some? (eq_sym y) st
    told st e y = ap (λ (o : Option (List Sym)). match_option o (some? (eq_sym y)) false) e

    split : (o : Option (List Sym)) → get eq_syms state m ≡ o
        → Enters r last state jmp (match_option o (λ st. if (some? (eq_sym jmp) st) (inter_set last m false r) (inter_set last (insert eq_syms state (jmp ∷ st) m) true r)) (inter_set last (insert eq_syms state (jmp ∷ []) m) true r))
    split none e = record {
      now = insert eqb last (insert eq_syms state (jmp ∷ []) m) r.istate;
      idx_is = refl;
      value_is = ap (λ (o : Option (List Sym)). not (match_option o (some? (eq_sym jmp)) false)) (sym e);
      tells = put-known r.istate last state jmp (jmp ∷ []) (λ y. ap (λ (o : Option (List Sym)). eq_sym y jmp || match_option o (some? (eq_sym y)) false) (sym e));
    }
    split (some st) e =
        both (Enters r last state jmp) (some? (eq_sym jmp) st)
        (λ on. record {
          now = insert eqb last m r.istate;
          idx_is = refl;
          value_is = ap not (sym (told st e jmp ∙ on));
          tells = there-known r.istate last state jmp (told st e jmp ∙ on);
        })
        (λ off. record {
          now = insert eqb last (insert eq_syms state (jmp ∷ st) m) r.istate;
          idx_is = refl;
          value_is = ap not (sym (told st e jmp ∙ off));
          tells = put-known r.istate last state jmp (jmp ∷ st) (λ y. ap (λ (b : Bool). eq_sym y jmp || b) (sym (told st e y)));
        })

module _ (row : ℕ → Row) (code : List ℕ) (c : Turn) (recs : List Rec) (met : List Met) (r : RevIdx) (h : Sim row code c recs met r) (m : Met) where
  abbrev seen : List (ℕ × Inter) → Type 0
  seen now = (l : ℕ) (x : State) (y : Sym) → known now l x y ≡ (eqb l m.last && eq_sym y m.symbol && eq_syms x (stored m.stack)) || known r.istate l x y

  with-now : (now : List (ℕ × Inter)) (mets : List Met) → ((l : ℕ) (x : Stack) (y : Sym) → known now l (stored x) y ≡ was-met mets l x y) → Sim row code c recs mets (with_istate now r)
  with-now now mets e = record {
    cached = record { shallow = h.cached.shallow; deep = h.cached.deep; replayed = h.cached.replayed };
    table = h.table;
    inter = e;
    bad = h.bad;
    live = h.live;
    along = h.along;
    short = h.short;
  }

  pub met-put : (now : List (ℕ × Inter)) → seen now → Sim row code c recs (m ∷ met) (with_istate now r)
  met-put now t =
      with-now now (m ∷ met) (λ l x y. t l (stored x) y
      ∙ ap₂ (λ (a b : Bool). (eqb l m.last && eq_sym y m.symbol && a) || b) (same-stored x m.stack) (h.inter l x y))

  pub met-there : (now : List (ℕ × Inter)) → seen now → was-met met m.last m.stack m.symbol ≡ true → Sim row code c recs met (with_istate now r)
  met-there now t on = with-now now met (λ l x y. t l (stored x) y ∙ ap (λ (b : Bool). met-again l x y || b) (h.inter l x y) ∙ covered l x y (met-again l x y) refl)
    where
      met-again : ℕ → Stack → Sym → Bool
      met-again l x y = eqb l m.last && eq_sym y m.symbol && eq_syms (stored x) (stored m.stack)

      covered : (l : ℕ) (x : Stack) (y : Sym) (b : Bool) → met-again l x y ≡ b → met-again l x y || was-met met l x y ≡ was-met met l x y
      covered l x y true e =
          let outer = and_both (eqb l m.last && eq_sym y m.symbol) (eq_syms (stored x) (stored m.stack)) e in
          let inner = and_both (eqb l m.last) (eq_sym y m.symbol) outer.0 in
          let p = eqb-true l m.last inner.0 in
          let q = symbol-test.equal y m.symbol inner.1 in
          let z = state-test.equal (stored x) (stored m.stack) outer.1 in
          ap (λ (t : Bool). t || was-met met l x y) e
          ∙ sym (sym (h.inter l x y) ∙ (λ i. known r.istate (p i) (z i) (q i)) ∙ h.inter m.last m.stack m.symbol ∙ on)
      covered l x y false e = ap (λ (t : Bool). t || was-met met l x y) e

-- line 452
pub met-cleared : (row : ℕ → Row) (code : List ℕ) (c : Turn) (recs : List Rec) (met : List Met) (r : RevIdx) → Sim row code c recs met r → Sim row code c recs [] (with_istate [] r)
met-cleared row code c recs met r h = record {
  cached = record { shallow = h.cached.shallow; deep = h.cached.deep; replayed = h.cached.replayed };
  table = h.table;
  inter = λ l x y. refl;
  bad = h.bad;
  live = h.live;
  along = h.along;
  short = h.short;
}

-- ---- lines 111 to 126: the parents

pub last-there : {row : ℕ → Row} {code path : List ℕ} {s : Stack} → Along row code path s → last_unwrapped path ≡ some (last_of path)
last-there a = rw a.path-is refl

abbrev pub live? : Turn → List Rec → Parent → Bool
live? c recs p = mem (last_of p.path) c.reached || mem (last_of p.path) (dests recs)

module _ (row : ℕ → Row) (code : List ℕ) (c : Turn) (recs : List Rec) (met : List Met) (r : RevIdx) (h : Sim row code c recs met r) where
  filtered : (to : ℕ) (ps : List Parent) → ((p : Parent) → In p ps → Along row code p.path p.stack)
      → filter_parents r.reachable0 (map entry_of (at_block to ps)) ≡ some (map entry_of (keep (λ (p : Parent). eqb to p.to && live? c recs p) ps))
  filtered to [] a = refl
  filtered to (p ∷ ps) a = split (eqb to p.to) refl (filtered to ps (λ q i. a q (there i)))
    where
      later : List Parent
      later = keep (λ (p : Parent). eqb to p.to && live? c recs p) ps

      split : (b : Bool) → eqb to p.to ≡ b → filter_parents r.reachable0 (map entry_of (at_block to ps)) ≡ some (map entry_of later)
          → filter_parents r.reachable0 (map entry_of (if (eqb to p.to) (p ∷ at_block to ps) (at_block to ps))) ≡ some (map entry_of (if (eqb to p.to && live? c recs p) (p ∷ later) later))
      split true e ih = rw (e) (rw (if-true true, last-there (a p here), ih, h.live (last_of p.path)) (kept (live? c recs p)))
        where
          kept : (b : Bool) → some (if b (entry_of p ∷ map entry_of later) (map entry_of later)) ≡ some (map entry_of (if b (p ∷ later) later))
          kept b = both (λ (l : List Parent). some (if b (entry_of p ∷ map entry_of later) (map entry_of later)) ≡ some (map entry_of l)) b (λ on. ap some (if-true _ _ _ on)) (λ off. ap some (if-false _ _ _ off))
      split false e ih = rw e (rw (if-false false, if-false false) ih)

  pub parents-given : (to : ℕ) → get_parents to r ≡ some (map entry_of (keep (λ (p : Parent). eqb to p.to && live? c recs p) (all-parents c recs)))
  unfolding get_parents
  parents-given to = split (get eqb to r.parents) ∙ ap (filter_parents r.reachable0) (h.table to) ∙ filtered to (all-parents c recs) h.along
    where
      split : (o : Option Parents) → match_option o (filter_parents r.reachable0) (some []) ≡ filter_parents r.reachable0 (unwrap_or [] o)
      split none = refl
      split (some m) = refl
