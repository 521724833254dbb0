-- The edges of the map, an entry after the other: what is left to look through ends as the whole does. Assumes nothing.
use Prim.Native.Nat.{ℕ, ◌-◌, ◌≤◌, ◌<◌}
use native.Mathlib.Omega.{arith}
use mathlib.Core.Path.{◌≡◌, refl, sym, ap, subst, ◌∙◌}
use mathlib.Core.Bool.{Bool, true, false, ◌&&◌, ◌||◌, not}
use mathlib.Core.List.{List, [], ◌∷◌}
use lib.Dec.{eqb, leb}
use lib.ListN.{length}
use borrow.Author.Tests.{ne_eqb, eqb-true, leb-true}
use Rattle.std.specs.Prelude.{Option as Maybe, Some, None, Result, Ok, Err}
use Rattle.spec.specs.Lists.{if, mem, some?}
use Rattle.spec.specs.Blocks.{jumpi}
use Rattle.spec.specs.Search.{sides, dest, dests}
use Rattle.spec.specs.Ending.{Final}
use Rattle.spec.specs.Entries.{Map}
use Rattle.spec.specs.Reader.{holds, Item, a_head, a_block, a_way, a_record, no_item, ways, finals_in, read}
use Rattle.spec.specs.Inspector.{targets, edge?}
use Rattle.laws.proofs.Branch.{both, if-true, if-false}
use Rattle.laws.proofs.Lists.{Rising, one_more}
use Rattle.laws.proofs.Members.{mem-append, or_right}
use Rattle.theorems.proofs.ReaderPlaces.{never}
use Rattle.theorems.proofs.ReaderAccepted.{read-blocks, read-rises}
use Rattle.theorems.proofs.Answered.{finals-at}
use Rattle.reader.specs.Dests.{found_of}
use Rattle.reader.specs.Shapes.{from, entry_at, behind_at, item_of}
use Rattle.reader.specs.Walks.{walk_at, items_from, Walking, over, here}
use Rattle.reader.specs.declared.entry.Entry.{Entry}
use Rattle.reader.specs.declared.entry.Entry.TheVariants.{Head, Terminate, Jump, Jumpi, DynamicJump, DynamicJumpi, Way, Record}
use Rattle.reader.specs.declared.entry.Fault.{Fault}
use Rattle.reader.specs.declared.walk.Step.{Step}
use Rattle.reader.proofs.Walked.{begins, Steps, stepping, ended}
use Rattle.inspector.specs.Edges.{held_in, map_in, Ready, edge_among, edge_from, edge_in, sight_by, sight_of, Stands, Sought}
use Rattle.inspector.specs.declared.seek.Sight.{Sight}
use Rattle.inspector.specs.declared.seek.Sight.TheVariants.{Edge, Own, Other}

-- ---- the map that accepted bytes hold

pub holds-map : (b : List ℕ) (m : Map) → read b ≡ holds m → map_in b ≡ m
unfolding held_in
holds-map b m e = ap held_in e

pub ready : (b : List ℕ) (m : Map) → read b ≡ holds m → Ready b
ready b m e = record { held = e ∙ ap holds (sym (holds-map b m e)) }

pub ready-walks : {b : List ℕ} → Ready b → Walking b 0
ready-walks {b} y = (begins b (map_in b) y.held).walking

-- a test that is negated
pub off : (b : Bool) → not b ≡ true → b ≡ false
off true e = sym e
off false e = refl

pub on : (b : Bool) → not b ≡ false → b ≡ true
on true e = refl
on false e = sym e

or-false : (b : Bool) → b || false ≡ b
or-false true = refl
or-false false = refl

-- ---- one entry

-- equal sides stand once
mem-sides : (x t f : ℕ) → mem x (sides (jumpi t f)) ≡ mem x (t ∷ f ∷ [])
mem-sides x t f = go (eqb t f) refl
  where
    twice : (c : Bool) → c || false ≡ c || (c || false)
    twice true = refl
    twice false = refl

    go : (c : Bool) → eqb t f ≡ c → mem x (if c (t ∷ []) (t ∷ f ∷ [])) ≡ mem x (t ∷ f ∷ [])
    go true e = ap (mem x) (if-true true (t ∷ []) (t ∷ f ∷ []) refl) ∙ twice (eqb x t) ∙ ap (λ (a : ℕ). mem x (t ∷ a ∷ [])) (eqb-true t f e)
    go false e = ap (mem x) (if-false false (t ∷ []) (t ∷ f ∷ []) refl)

-- what is left, by what an entry is
abbrev pub goes_on : ℕ → ℕ → List Item → Sight → Bool
goes_on x y is Edge = true
goes_on x y is Own = edge_among x y true is
goes_on x y is Other = edge_among x y false is

module _ (x y : ℕ) (is : List Item) where
  by-sight : (own leads : Bool) → (own && leads) || edge_among x y own is ≡ goes_on x y is (sight_by own leads)
  by-sight true true = refl
  by-sight true false = refl
  by-sight false leads = refl

  pub edge-step : (b : List ℕ) (e : Result Entry Fault) (mine : Bool) → edge_among x y mine (item_of b e ∷ is) ≡ goes_on x y is (sight_of e mine y x)
  unfolding edge_among
  edge-step b (Ok (Terminate s d ok)) mine = by-sight (eqb y s) false
  edge-step b (Ok (Jump s d t)) mine = by-sight (eqb y s) (mem x (t ∷ []))
  edge-step b (Ok (Jumpi s d t f)) mine = ap (λ (z : Bool). (eqb y s && z) || edge_among x y (eqb y s) is) (mem-sides x t f) ∙ by-sight (eqb y s) (mem x (t ∷ f ∷ []))
  edge-step b (Ok (DynamicJump s d n)) mine = by-sight (eqb y s) false
  edge-step b (Ok (DynamicJumpi s d f n)) mine = by-sight (eqb y s) (mem x (f ∷ []))
  edge-step b (Ok (Way t path n)) mine = by-sight mine (mem x (dest (found_of t)))
  edge-step b (Ok (Head size n m energy)) mine = refl
  edge-step b (Ok (Record s t v path n)) mine = refl
  edge-step b (Err fault) mine = refl

-- what a step of the walk has found
pub walk_here : (b : List ℕ) (at : ℕ) {r : Maybe Step} → r ≡ walk_at b at → {t : Step} → r ≡ Some t → (t.entry ≡ entry_at b at) × (t.behind ≡ behind_at b at)
unfolding walk_at
walk_here b at {r} h {t} q =
    both (λ (x : Maybe Step). r ≡ x → (t.entry ≡ entry_at b at) × (t.behind ≡ behind_at b at)) (leb (length b) at)
    (λ _ (k : r ≡ None). never (cc))
    (λ _ k.
    let g : t ≡ record { entry = entry_at b at; behind = behind_at b at } = cc in
    (ap (λ (x : Step). x.entry) g, ap (λ (x : Step). x.behind) g)) h

pub walk_end : (b : List ℕ) (at : ℕ) → Walking b at → {r : Maybe Step} → r ≡ walk_at b at → r ≡ None → at ≡ length b
unfolding walk_at
walk_end b at w {r} h q =
    both (λ (x : Maybe Step). r ≡ x → at ≡ length b) (leb (length b) at)
    (λ z _. by-walk w (leb-true (length b) at z))
    (λ _ (k : r ≡ Some (record { entry = entry_at b at; behind = behind_at b at })). never (cc)) h
  where
    by-walk : Walking b at → length b ≤ at → at ≡ length b
    by-walk (over z) l = z
    by-walk (here m n v) l = absurd (omega arith)

-- ---- an edge that stands behind an entry

module _ (x y : ℕ) where
  -- with the block before them as well
  edge-mine : (mine : Bool) (is : List Item) → edge_among x y false is ≡ true → edge_among x y mine is ≡ true
  unfolding edge_among
  edge-mine mine [] e = e
  edge-mine mine (a_block c n ∷ is) e = e
  edge-mine mine (a_way t p ∷ is) e = or_right (mine && mem x (dest t)) _ (edge-mine mine is e)
  edge-mine mine (a_head s n m k ∷ is) e = e
  edge-mine mine (a_record numbered r ∷ is) e = e
  edge-mine mine (no_item ∷ is) e = e

  -- and an entry more
  edge_more : (mine : Bool) (i : Item) (is : List Item) → edge_among x y false is ≡ true → edge_among x y mine (i ∷ is) ≡ true
  unfolding edge_among
  edge_more mine (a_block c n) is e = or_right (eqb y c.start && mem x (sides c.kind)) _ (edge-mine (eqb y c.start) is e)
  edge_more mine (a_way t p) is e = or_right (mine && mem x (dest t)) _ (edge-mine mine is e)
  edge_more mine (a_head s n m k) is e = e
  edge_more mine (a_record numbered r) is e = e
  edge_more mine no_item is e = e

-- ---- the loop of seek

pub record Seeking (b : List ℕ) (x y start at : ℕ) (mine : Bool) : Type 0 where
  pub stands : Stands b y start
  pub walking : Walking b at
  pub rest : edge_from b x y mine at ≡ edge_in b x y
  pub fresh : mine ≡ false → at ≡ start
  pub lone : mine ≡ true → edge_from b x y false at ≡ false

pub seek-start : {b : List ℕ} {x y start : ℕ} → Stands b y start → Seeking b x y start start false
seek-start {x = x} s = record { stands = s; walking = s.walking; rest = s.same x; fresh = λ _. refl; lone = λ z. never (cc) }

module _ {b : List ℕ} {x y start at : ℕ} {mine : Bool} (i : Seeking b x y start at mine) {r : Maybe Step} (h : r ≡ walk_at b at) where
  pub seek-over : r ≡ None → Sought b x y false
  unfolding edge_among
  seek-over q = record { is = sym (ap (edge_among x y mine) (ended i.walking h q)) ∙ i.rest }

  module _ {t : Step} (q : r ≡ Some t) {s : Sight} (k : s ≡ sight_of t.entry mine y x) where
    step : Steps b at t.entry t.behind
    step = stepping i.walking h q

    here-is : (t.entry ≡ entry_at b at) × (t.behind ≡ behind_at b at)
    here-is = walk_here b at h q

    there : goes_on x y (items_from b t.behind) s ≡ edge_in b x y
    there = ap (goes_on x y (items_from b t.behind)) k ∙ sym (edge-step x y (items_from b t.behind) b t.entry mine) ∙ ap (edge_among x y mine) (sym step.item) ∙ i.rest

    pub seek-less : length b - t.behind < length b - at
    seek-less = omega (arith, step.on, step.inside)

    pub seek-edge : s ≡ Edge → Sought b x y true
    seek-edge z = record { is = ap (goes_on x y (items_from b t.behind)) (sym z) ∙ there }

    -- nothing of y stands behind this entry, but its own 7s
    lone-on : (c : Bool) → mine ≡ c → edge_from b x y false t.behind ≡ false
    lone-on true m = none_more (edge_from b x y false t.behind) refl
      where
        none_more : (d : Bool) → edge_from b x y false t.behind ≡ d → edge_from b x y false t.behind ≡ false
        none_more false e₁ = e₁
        none_more true e₁ =
            let z : edge_from b x y false at ≡ true = ap (edge_among x y false) step.item ∙ edge_more x y false (item_of b t.entry) (items_from b t.behind) e₁ in
            let w : edge_from b x y false at ≡ false = i.lone m in
            never (cc)
    lone-on false m = subst (λ (n : ℕ). edge_from b x y false n ≡ false) (sym (here-is.1 ∙ ap (behind_at b) (i.fresh m))) (i.stands.lone x)

    pub seek-own : s ≡ Own → Seeking b x y start t.behind true
    seek-own z = record {
      stands = i.stands;
      walking = step.walking;
      rest = ap (goes_on x y (items_from b t.behind)) (sym z) ∙ there;
      fresh = λ z. never (cc);
      lone = λ _. lone-on mine refl;
    }

    pub seek-other : s ≡ Other → Sought b x y false
    seek-other z = record { is = sym (lone-on mine refl) ∙ ap (goes_on x y (items_from b t.behind)) (sym z) ∙ there }

-- ---- the definition's edges

abbrev test : ℕ → ℕ → Final → Bool
test x y f = eqb y f.block.start && mem x (targets f)

and-or : (a b c : Bool) → a && (b || c) ≡ (a && b) || (a && c)
and-or true b c = refl
and-or false b c = refl

or-assoc' : (a b c : Bool) → (a || b) || c ≡ a || (b || c)
or-assoc' true b c = refl
or-assoc' false b c = refl

and-false : (a : Bool) → a && false ≡ false
and-false true = refl
and-false false = refl

module _ (x y : ℕ) where
  -- the 7s that come first are of the block before, if it is the one
  among-is : (mine : Bool) (a : ℕ) (is : List Item) → edge_among x y mine is ≡ (mine && mem x (dests (ways a is))) || some? (test x y) (finals_in is)
  unfolding edge_among ways finals_in
  among-is mine a [] = sym (or-false (mine && false) ∙ and-false mine)
  among-is mine a (a_block c n ∷ is) =
      let own = eqb y c.start in
      ap (λ (z : Bool). (own && mem x (sides c.kind)) || z) (among-is own c.start is)
      ∙ sym (or-assoc' (own && mem x (sides c.kind)) (own && mem x (dests (ways c.start is))) (some? (test x y) (finals_in is)))
      ∙ ap (λ (z : Bool). z || some? (test x y) (finals_in is))
      (sym (and-or own (mem x (sides c.kind)) (mem x (dests (ways c.start is)))) ∙ ap (λ (z : Bool). own && z) (sym (mem-append x (sides c.kind) (dests (ways c.start is)))))
      ∙ ap (λ (z : Bool). z || (test x y (record { block = c; entries = ways c.start is }) || some? (test x y) (finals_in is))) (sym (and-false mine))
  among-is mine a (a_way t p ∷ is) =
      ap (λ (z : Bool). (mine && mem x (dest t)) || z) (among-is mine a is)
      ∙ sym (or-assoc' (mine && mem x (dest t)) (mine && mem x (dests (ways a is))) (some? (test x y) (finals_in is)))
      ∙ ap (λ (z : Bool). z || some? (test x y) (finals_in is)) (sym (and-or mine (mem x (dest t)) (mem x (dests (ways a is)))) ∙ ap (λ (z : Bool). mine && z) (sym (mem-append x (dest t) (dests (ways a is)))))
  among-is mine a (a_head s n m e ∷ is) = among-is false a is ∙ ap (λ (z : Bool). z || some? (test x y) (finals_in is)) (sym (and-false mine))
  among-is mine a (a_record numbered r ∷ is) = among-is false a is ∙ ap (λ (z : Bool). z || some? (test x y) (finals_in is)) (sym (and-false mine))
  among-is mine a (no_item ∷ is) = among-is false a is ∙ ap (λ (z : Bool). z || some? (test x y) (finals_in is)) (sym (and-false mine))

-- The edges that stand in the bytes are the map's.
pub edge_is : {b : List ℕ} → Ready b → (x y : ℕ) → edge_in b x y ≡ edge? (map_in b) x y
unfolding items_from from
edge_is {b} h x y = among-is x y false 0 (items_from b 0) ∙ ap (some? (test x y)) (read-blocks b (map_in b) h.held)

-- ---- blocks rise

-- none of them starts below
rising_none : (x y : ℕ) (fs : List Final) {lo : ℕ} → Rising lo (finals-at fs) → y < lo → some? (test x y) fs ≡ false
rising_none x y [] r h = refl
rising_none x y (f ∷ fs) (one_more l r) h =
    ap (λ (c : Bool). (c && mem x (targets f)) || some? (test x y) fs) (ne_eqb y f.block.start (λ e. omega arith)) ∙ rising_none x y fs r (omega arith)

pub none_below : (x y : ℕ) (is : List Item) {lo : ℕ} → Rising lo (finals-at (finals_in is)) → y < lo → edge_among x y false is ≡ false
none_below x y is r h = among-is x y false 0 is ∙ rising_none x y (finals_in is) r h

pub all-rise : {b : List ℕ} → Ready b → Rising 0 (finals-at (finals_in (items_from b 0)))
unfolding items_from from
all-rise {b} y = subst (λ (fs : List Final). Rising 0 (finals-at fs)) (sym (read-blocks b (map_in b) y.held)) (read-rises b (map_in b) y.held)
