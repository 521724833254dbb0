-- Over the blocks of accepted bytes, and over the destinations of a block. Assumes nothing.
use Rattle.std.proofs.Common.{◌≡◌, ℕ, ◌+◌, ◌-◌, ◌*◌, ◌<◌, ◌≤◌, Bool, true, false, not, eqb, leb, List, [], ◌∷◌, ◌++◌, length, drop, sym, refl, ap, ◌∙◌, subst, arith, eq-eqb, eqb-true, le-leb, leb-false, Option, Some, None, Result, Ok, Err}
use borrow.Author.Tests.{lt-leb}
use native.Mathlib.Decide.{dec_le}
use Rattle.spec.specs.Lists.{if, keep}
use Rattle.spec.specs.Search.{dests}
use Rattle.spec.specs.Blocks.{block, terminate, jump, jumpi, dynamic_jump, dynamic_jumpi}
use Rattle.spec.specs.Ending.{Final}
use Rattle.spec.specs.Forms.{announced}
use Rattle.spec.specs.BadEntries.{Whole}
use Rattle.spec.specs.Reader.{Item, a_head, a_block, a_way, a_record, no_item, ways, finals_in}
use Rattle.spec.specs.Counting.{distinct}
use Rattle.spec.specs.Follow.{starts_at, outgoing}
use Rattle.laws.proofs.Branch.{both, if-true, if-false}
use Rattle.theorems.proofs.ReaderPlaces.{never}
use Rattle.reader.specs.Shapes.{behind_at, entry_at, item_of}
use Rattle.reader.specs.Classes.{class_of}
use Rattle.reader.specs.Walks.{walk_at, items_from, Walking, over, here}
use Rattle.reader.specs.declared.entry.Entry.{Entry}
use Rattle.reader.specs.declared.entry.Entry.TheVariants.{Head, Terminate, Jump, Jumpi, DynamicJump, DynamicJumpi, Way, Record}
use Rattle.reader.specs.declared.entry.Fault.{Fault}
use Rattle.reader.specs.declared.walk.Step.{Step}
use Rattle.reader.proofs.Judging.{entry-cut, behind-whole}
use Rattle.reader.proofs.Walked.{stepping, ended}
use Rattle.follow.specs.Blocks.{finals_at, outs_at, block_of, sides_in, named_by, Begins, way_of, SevenTo, next_seven, Leads}
use Rattle.follow.specs.declared.block.Sides.{Sides}
use Rattle.follow.specs.declared.block.Sides.TheVariants.{Zero, One, Two}
use Rattle.follow.specs.declared.block.Named.{Named}
use Rattle.follow.specs.declared.block.Block.{Block}
use Rattle.follow.specs.declared.destination.Seven.{Seven}

-- ---- a walk stands within the bytes, and an entry has 6 bytes at least

pub inside : {b : List ℕ} {at : ℕ} → Walking b at → at ≤ length b
inside (over z) = omega arith
inside (here l n w) = omega arith

pub far : {b : List ℕ} {at : ℕ} → Walking b at → {r : Option Step} → r ≡ walk_at b at → {s : Step} → r ≡ Some s → at + 6 ≤ s.behind
unfolding walk_at
far {b} {at} w {r} h {s} q =
    both (λ (x : Option Step). r ≡ x → at + 6 ≤ s.behind) (leb (length b) at)
    (λ _ (k : r ≡ None). never (cc))
    (λ off k.
    let g : s ≡ record { entry = entry_at b at; behind = behind_at b at } = cc in
    by-walk w (leb-false (length b) at off) (ap (λ (x : Step). x.behind) g)) h
  where
    by_whole : (class_of (entry_at b at) ≡ None → ⊥) → Dec (Whole (drop at b)) → at + 6 ≤ behind_at b at
    by_whole n (yes x) = rw (behind-whole b at x) (omega arith)
    by_whole n (no m) = absurd (n (rw (entry-cut b at m)))

    by-walk : Walking b at → at < length b → s.behind ≡ behind_at b at → at + 6 ≤ s.behind
    by-walk (over z) l t = absurd (omega arith)
    by-walk (here m n v) l t = rw t (by_whole n (dec_le (6 + announced (drop at b)) (length (drop at b))))

-- ---- blocks

others : ℕ → List ℕ → List ℕ
others x = keep (λ (y : ℕ). not (eqb x y))

others-twice : (x : ℕ) (ys : List ℕ) → others x (others x ys) ≡ others x ys
unfolding others if
others-twice x [] = refl
others-twice x (y ∷ ys) = go (eqb x y) refl (others-twice x ys)
  where
    go : (c : Bool) → eqb x y ≡ c → others x (others x ys) ≡ others x ys → others x (if (not c) (y ∷ others x ys) (others x ys)) ≡ if (not c) (y ∷ others x ys) (others x ys)
    go true e ih = ih
    go false e ih = if-true (not (eqb x y)) _ _ (ap not e) ∙ ap {B = List ℕ} (λ (l : List ℕ). y ∷ l) ih

-- of equal sides one counts
distinct-equal : (t : ℕ) (xs : List ℕ) → distinct (t ∷ t ∷ xs) ≡ distinct (t ∷ xs)
unfolding distinct others
distinct-equal t xs =
    ap {B = List ℕ} (λ (l : List ℕ). t ∷ l)
    (if-false (not (eqb t t)) _ _ (ap not (eq-eqb t t refl)) ∙ others-twice t (distinct xs))

distinct-sides : (t f : ℕ) (xs : List ℕ) → distinct (t ∷ f ∷ xs) ≡ distinct (if (eqb t f) (t ∷ []) (t ∷ f ∷ []) ++ xs)
distinct-sides t f xs =
    both (λ (l : List ℕ). distinct (t ∷ f ∷ xs) ≡ distinct (l ++ xs)) (eqb t f)
    (λ e. let same : t ≡ f = eqb-true t f e in ap (λ (y : ℕ). distinct (t ∷ y ∷ xs)) (sym same) ∙ distinct-equal t xs) (λ _. refl)

-- where a block starts is nothing to its destinations
ways-dests : (a : ℕ) (is : List Item) → dests (ways a is) ≡ dests (ways 0 is)
unfolding ways
ways-dests a [] = refl
ways-dests a (a_way t p ∷ is) = rw (ways-dests a is)
ways-dests a (a_head s n m e ∷ is) = refl
ways-dests a (a_block b n ∷ is) = refl
ways-dests a (a_record c r ∷ is) = refl
ways-dests a (no_item ∷ is) = refl

-- the items begin with a block
record Starts (is : List Item) (i : Item) (s x : ℕ) (l : Sides) : Type 0 where
  final : Final
  first : finals_in (i ∷ is) ≡ final ∷ finals_in is
  start : s ≡ starts_at final
  end : x ≡ final.block.end
  named : distinct (sides_in l ++ dests (ways 0 is)) ≡ outgoing final

-- or with another entry
abbrev HereIs : List Item → Item → Option Block → Type 0
HereIs is i (Some k) = Starts is i k.start k.end k.named.sides
HereIs is i None = finals_in (i ∷ is) ≡ finals_in is

here-is : (b : List ℕ) (is : List Item) (e : Result Entry Fault) (own at : ℕ) → HereIs is (item_of b e) (block_of e own at)
unfolding finals_in
here-is b is (Ok (Terminate s x ok)) own at =
    record { final = record { block = block s s x (terminate (eqb ok 1)); entries = ways s is }; first = refl; start = refl; end = refl; named = ap (λ (l : List ℕ). distinct l) (sym (ways-dests s is)) }
here-is b is (Ok (Jump s x t)) own at =
    record { final = record { block = block s s x (jump t); entries = ways s is }; first = refl; start = refl; end = refl; named = ap (λ (l : List ℕ). distinct (t ∷ l)) (sym (ways-dests s is)) }
here-is b is (Ok (Jumpi s x t f)) own at =
    record {
      final = record { block = block s s x (jumpi t f); entries = ways s is };
      first = refl;
      start = refl;
      end = refl;
      named = distinct-sides t f (dests (ways 0 is)) ∙ ap (λ (l : List ℕ). distinct (if (eqb t f) (t ∷ []) (t ∷ f ∷ []) ++ l)) (sym (ways-dests s is));
    }
here-is b is (Ok (DynamicJump s x n)) own at =
    record { final = record { block = block s s x dynamic_jump; entries = ways s is }; first = refl; start = refl; end = refl; named = ap (λ (l : List ℕ). distinct l) (sym (ways-dests s is)) }
here-is b is (Ok (DynamicJumpi s x f n)) own at =
    record { final = record { block = block s s x (dynamic_jumpi f); entries = ways s is }; first = refl; start = refl; end = refl; named = ap (λ (l : List ℕ). distinct (f ∷ l)) (sym (ways-dests s is)) }
here-is b is (Ok (Head z n m y)) own at = refl
here-is b is (Ok (Way t p n)) own at = refl
here-is b is (Ok (Record s t v p n)) own at = refl
here-is b is (Err fault) own at = refl

-- a block says where it stands, and where its destinations do
own-in : Option Block → ℕ
own-in (Some k) = k.own
own-in None = 0

behind-in : Option Block → ℕ
behind-in (Some k) = k.named.at
behind-in None = 0

stands-at : (e : Result Entry Fault) (own at : ℕ) {k : Block} → block_of e own at ≡ Some k → (k.own ≡ own) × (k.named.at ≡ at)
unfolding own-in behind-in
stands-at (Ok (Terminate s x ok)) own at q = (sym (ap own-in q), sym (ap behind-in q))
stands-at (Ok (Jump s x t)) own at q = (sym (ap own-in q), sym (ap behind-in q))
stands-at (Ok (Jumpi s x t f)) own at q = (sym (ap own-in q), sym (ap behind-in q))
stands-at (Ok (DynamicJump s x n)) own at q = (sym (ap own-in q), sym (ap behind-in q))
stands-at (Ok (DynamicJumpi s x f n)) own at q = (sym (ap own-in q), sym (ap behind-in q))
stands-at (Ok (Head z n m y)) own at q = never (cc)
stands-at (Ok (Way t p n)) own at q = never (cc)
stands-at (Ok (Record s t v p n)) own at q = never (cc)
stands-at (Err fault) own at q = never (cc)

-- the loop over entries: what is left begins where the whole does
pub record BlockFrom (b : List ℕ) (from at : ℕ) : Type 0 where
  pub walking : Walking b at
  pub same : finals_at b from ≡ finals_at b at
  pub on : from ≤ at

module _ {b : List ℕ} {from at : ℕ} (i : BlockFrom b from at) {r : Option Step} (h : r ≡ walk_at b at) where
  module _ {s : Step} (q : r ≡ Some s) where
    abbrev e : Result Entry Fault
    e = s.entry

    abbrev to : ℕ
    to = s.behind

    pub block-less : length b - to < length b - at
    block-less = let s = stepping i.walking h q in omega arith

    module _ {v : Option Block} (k : v ≡ block_of e at to) where
      pub block_on : v ≡ None → BlockFrom b from to
      unfolding finals_at
      block_on z =
          let s = stepping i.walking h q in
          record {
            walking = s.walking;
            same = i.same ∙ ap finals_in s.item ∙ subst (HereIs (items_from b to) (item_of b e)) (sym k ∙ z) (here-is b (items_from b to) e at to);
            on = omega arith;
          }

      pub block_here : {x : Block} → v ≡ Some x → Begins b from x
      unfolding finals_at outs_at named_by
      block_here {x} z =
          let s = stepping i.walking h q in
          let t : Starts (items_from b to) (item_of b e) x.start x.end x.named.sides = subst (HereIs (items_from b to) (item_of b e)) (sym k ∙ z) (here-is b (items_from b to) e at to) in
          let a = stands-at e at to (sym k ∙ z) in
          let first : finals_at b at ≡ t.final ∷ finals_at b x.named.at = ap finals_in s.item ∙ t.first ∙ ap (λ (n : ℕ). t.final ∷ finals_in (items_from b n)) (sym a.1) in
          record {
            final = t.final;
            is = record { start = t.start; end = t.end; named = ap (λ (n : ℕ). distinct (sides_in x.named.sides ++ dests (ways 0 (items_from b n)))) a.1 ∙ t.named; walking = subst (Walking b) (sym a.1) s.walking };
            here = i.same ∙ first;
            on = omega (arith, a.1, i.on, s.on);
            own_here = subst (λ (n : ℕ). finals_at b n ≡ t.final ∷ finals_at b x.named.at) (sym a.0) first;
            own_walking = subst (Walking b) (sym a.0) i.walking;
            own_on = omega (arith, a.0, a.1, s.on);
          }

  pub block_none : r ≡ None → finals_at b from ≡ []
  unfolding finals_at finals_in
  block_none q = i.same ∙ ap finals_in (ended i.walking h q)

-- ---- destinations

-- the items begin with a 7, or with another entry
abbrev WayIs : List Item → Item → Option (Option ℕ) → Type 0
WayIs is i (Some (Some t)) = dests (ways 0 (i ∷ is)) ≡ t ∷ dests (ways 0 is)
WayIs is i (Some None) = dests (ways 0 (i ∷ is)) ≡ dests (ways 0 is)
WayIs is i None = dests (ways 0 (i ∷ is)) ≡ []

way_is : (b : List ℕ) (is : List Item) (e : Result Entry Fault) → WayIs is (item_of b e) (way_of e)
unfolding ways
way_is b is (Ok (Way None p n)) = refl
way_is b is (Ok (Way (Some t) p n)) = refl
way_is b is (Ok (Terminate s x ok)) = refl
way_is b is (Ok (Jump s x t)) = refl
way_is b is (Ok (Jumpi s x t f)) = refl
way_is b is (Ok (DynamicJump s x n)) = refl
way_is b is (Ok (DynamicJumpi s x f n)) = refl
way_is b is (Ok (Head z n m y)) = refl
way_is b is (Ok (Record s t v p n)) = refl
way_is b is (Err fault) = refl

pub record SevensFrom (b : List ℕ) (from at : ℕ) : Type 0 where
  pub walking : Walking b at
  pub same : outs_at b from ≡ outs_at b at
  pub on : from ≤ at

module _ {b : List ℕ} {from at : ℕ} (i : SevensFrom b from at) {r : Option Step} (h : r ≡ walk_at b at) where
  module _ {s : Step} (q : r ≡ Some s) {v : Option (Option ℕ)} (k : v ≡ way_of s.entry) where
    step : {u : Option (Option ℕ)} → v ≡ u → WayIs (items_from b s.behind) (item_of b s.entry) u
    step z = subst (WayIs (items_from b s.behind) (item_of b s.entry)) (sym k ∙ z) (way_is b (items_from b s.behind) s.entry)

    items-are : outs_at b at ≡ dests (ways 0 (item_of b s.entry ∷ items_from b s.behind))
    unfolding outs_at
    items-are = ap (λ (l : List Item). dests (ways 0 l)) (stepping i.walking h q).item

    pub seven-to : {t : ℕ} → v ≡ Some (Some t) → SevenTo b from t s.behind
    unfolding outs_at
    seven-to z = record { is = i.same ∙ items-are ∙ step z; walking = (stepping i.walking h q).walking; on = omega (arith, i.on, far i.walking h q) }

    pub seven-on : v ≡ Some None → SevensFrom b from s.behind
    unfolding outs_at
    seven-on z = record { walking = (stepping i.walking h q).walking; same = i.same ∙ items-are ∙ step z; on = omega (arith, i.on, far i.walking h q) }

    pub seven-no : v ≡ None → outs_at b from ≡ []
    seven-no z = i.same ∙ items-are ∙ step z

    pub seven-less : length b - s.behind < length b - at
    seven-less = let t = stepping i.walking h q in omega arith

  pub seven-over : r ≡ None → outs_at b from ≡ []
  unfolding outs_at ways
  seven-over q = i.same ∙ ap (λ (l : List Item). dests (ways 0 l)) (ended i.walking h q)

-- each takes 6 bytes at least
walk-over : (b : List ℕ) {at : ℕ} → at ≡ length b → None ≡ walk_at b at
unfolding walk_at
walk-over b {at} z = sym (if-true (leb (length b) at) _ _ (le-leb (length b) at (omega arith)))

walk-here : (b : List ℕ) {at : ℕ} → at < length b → Some (record { entry = entry_at b at; behind = behind_at b at }) ≡ walk_at b at
unfolding walk_at
walk-here b {at} l = sym (if-false (leb (length b) at) _ _ (lt-leb (length b) at l))

pub few-outs : {b : List ℕ} {at : ℕ} → Walking b at → 6 * length (outs_at b at) + at ≤ length b
unfolding outs_at ways
few-outs {b} {at} (over z) = rw (ended (over z) (walk-over b z) refl) (omega arith)
few-outs {b} {at} (here l n w) =
    let s = stepping (here l n w) (walk-here b l) refl in
    let f = far (here l n w) (walk-here b l) refl in
    rw (s.item) (by-way (few-outs w) f (way_of (entry_at b at)) (way_is b (items_from b (behind_at b at)) (entry_at b at)))
  where
    by-way : 6 * length (dests (ways 0 (items_from b (behind_at b at)))) + behind_at b at ≤ length b → at + 6 ≤ behind_at b at
        → (v : Option (Option ℕ)) → WayIs (items_from b (behind_at b at)) (item_of b (entry_at b at)) v → 6 * length (dests (ways 0 (item_of b (entry_at b at) ∷ items_from b (behind_at b at)))) + at ≤ length b
    by-way g f (Some (Some t)) k = rw k (omega arith)
    by-way g f (Some None) k = rw k (omega arith)
    by-way g f None k = rw k (omega arith)

module _ (b : List ℕ) (c : Named) where
  pub dest-two : Walking b c.at → {x y : ℕ} → c.sides ≡ Two x y → Leads b c x (record { sides = One y; at = c.at })
  unfolding named_by
  dest-two w e = record { is = ap (λ (l : Sides). sides_in l ++ outs_at b c.at) e; walking = w; few = rw e (omega arith); spent = rw e (omega arith) }

  pub dest-one : Walking b c.at → {x : ℕ} → c.sides ≡ One x → Leads b c x (record { sides = Zero; at = c.at })
  unfolding named_by
  dest-one w e = record { is = ap (λ (l : Sides). sides_in l ++ outs_at b c.at) e; walking = w; few = rw e (omega arith); spent = rw e (omega arith) }

  module _ (e : c.sides ≡ Zero) {r : Option Seven} (h : next_seven b c.at r) where
    pub dest-seven : {s : Seven} → r ≡ Some s → Leads b c s.to (record { sides = Zero; at = s.behind })
    unfolding named_by
    dest-seven {s} q =
        let t : SevenTo b c.at s.to s.behind = subst (next_seven b c.at) q h in
        record { is = ap (λ (l : Sides). sides_in l ++ outs_at b c.at) e ∙ t.is; walking = t.walking; few = rw e (omega arith); spent = rw e (omega (arith, t.on)) }

    pub dest-none : r ≡ None → named_by b c ≡ []
    unfolding named_by
    dest-none q = ap (λ (l : Sides). sides_in l ++ outs_at b c.at) e ∙ subst (next_seven b c.at) q h
