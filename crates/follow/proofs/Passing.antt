-- Passing over the blocks: those before, and those from here on. Assumes nothing.
use Rattle.std.proofs.Common.{◌≡◌, ℕ, suc, ◌+◌, ◌-◌, ◌*◌, ◌<◌, ◌≤◌, Bool, true, false, eqb, List, [], ◌∷◌, ◌++◌, length, sym, refl, ap, ◌∙◌, subst, append_assoc, arith, w64, Fits, eq-eqb, ne_eqb, Option, Some, None, SomeIff, Bor}
use mathlib.Core.Option.{none, some}
use Rattle.spec.specs.Lists.{if}
use Rattle.spec.specs.Ending.{Final}
use Rattle.spec.specs.Counting.{distinct}
use Rattle.spec.specs.Follow.{starts_at, outgoing, starting}
use Rattle.laws.proofs.Branch.{if-true, if-false}
use Rattle.theorems.proofs.ReaderPlaces.{never}
use Rattle.lent.specs.Bytes.{num_at, Holds}
use Rattle.reader.specs.Walks.{Walking}
use Rattle.reader.proofs.Walked.{begins}
use Rattle.follow.specs.Blocks.{finals_at, named_by, Begins, next_block, CanGo, GivesBlock}
use Rattle.follow.specs.Finding.{slots_of, Ready, FoundAt, Spot, Indexed, Index, Finds}
use Rattle.follow.specs.declared.block.Block.{Block}
use Rattle.follow.specs.declared.block.Blocks.{Blocks}
use Rattle.follow.specs.declared.find.Finder.{Finder}
use Rattle.refusal.specs.declared.Refusal.TheVariants.{Counts}

-- ---- counts of blocks one after the other

pub slots-append : (xs ys : List Final) → slots_of (xs ++ ys) ≡ slots_of xs + slots_of ys
unfolding slots_of
slots-append [] ys = omega arith
slots-append (x ∷ xs) ys = omega (arith, slots-append xs ys)

pub slots-first : (f : Final) (fs : List Final) → slots_of (f ∷ fs) ≡ suc (length (outgoing f)) + slots_of fs
unfolding slots_of
slots-first f fs = refl

pub slots-none : slots_of [] ≡ 0
unfolding slots_of
slots-none = refl

-- blocks behind equally many counts are the same
pub same-slot : (xs ys : List Final) (f g : Final) (us vs : List Final) → xs ++ f ∷ us ≡ ys ++ g ∷ vs → slots_of xs ≡ slots_of ys → f ≡ g
same-slot [] [] f g us vs e s = cc
same-slot [] (y ∷ ys) f g us vs e s = absurd (omega (arith, slots-none, slots-first y ys))
same-slot (x ∷ xs) [] f g us vs e s = absurd (omega (arith, slots-none, slots-first x xs))
same-slot (x ∷ xs) (y ∷ ys) f g us vs e s =
    let one : x ≡ y = cc in
    let rest : xs ++ f ∷ us ≡ ys ++ g ∷ vs = cc in
    let wide : length (outgoing x) ≡ length (outgoing y) = ap (λ (z : Final). length (outgoing z)) one in
    same-slot xs ys f g us vs rest (omega (arith, slots-first x xs, slots-first y ys))

-- ---- the loop's state

pub record Passing (b : List ℕ) (s : Blocks) (n : ℕ) : Type 0 where
  pub same : s.map.now ≡ b
  pub before : List Final
  pub is : finals_at b 0 ≡ before ++ finals_at b s.at
  pub count : n ≡ slots_of before
  pub walking : Walking b s.at

pub pass-start : {map : Bor (List ℕ)} {s : Blocks} → s ≡ record { map = map; at = 0 } → Walking map.now 0 → Passing map.now s 0
pass-start e w = rw e (record { same = refl; before = []; is = refl; count = sym slots-none; walking = w })

pub go-start : {map : Bor (List ℕ)} {s : Blocks} → s ≡ record { map = map; at = 0 } → Walking map.now 0 → CanGo s
go-start e w = rw e w

pub ready-walks : {b : List ℕ} → Ready b → Walking b 0
ready-walks r = (begins _ r.map r.held).walking

module _ {b : List ℕ} {s : Blocks} {n : ℕ} (i : Passing b s n) {r : Option Block} {t : Blocks} (g : GivesBlock s r t) where
  pub found-here : next_block b s.at r
  found-here = subst (λ (m : List ℕ). next_block m s.at r) i.same g.here

  module _ {k : Block} (q : r ≡ Some k) where
    pub its-block : Begins b s.at k
    its-block = subst (next_block b s.at) q found-here

    pub split-here : finals_at b 0 ≡ i.before ++ its-block.final ∷ finals_at b k.named.at
    split-here = i.is ∙ ap (λ (l : List Final). i.before ++ l) its-block.here

    pub pass-walking : Walking b k.named.at
    pass-walking = its-block.is.walking

    module _ {m : ℕ} (e : m ≡ length (distinct (named_by b k.named))) where
      pub wide : m ≡ length (outgoing its-block.final)
      wide = e ∙ ap length its-block.is.named

      pub pass-sum : n + 1 + m + slots_of (finals_at b k.named.at) ≡ slots_of (finals_at b 0)
      pass-sum =
          let s = ap slots_of split-here ∙ slots-append i.before (its-block.final ∷ finals_at b k.named.at) in
          let t = slots-first its-block.final (finals_at b k.named.at) in
          omega (arith, wide, i.count)

      abbrev pub pass_on : {total : ℕ} → total ≡ n + 1 + m → Passing b t total
      pass_on {total} z =
          record {
            same = ap (λ (x : Bor (List ℕ)). x.now) g.same ∙ i.same;
            before = i.before ++ its-block.final ∷ [];
            is = subst (λ (a : ℕ). finals_at b 0 ≡ (i.before ++ its-block.final ∷ []) ++ finals_at b a) (sym (g.behind k q)) (split-here ∙ sym (append_assoc i.before (its-block.final ∷ []) (finals_at b k.named.at)));
            count = let s = slots-append i.before (its-block.final ∷ []) in let t = slots-first its-block.final [] in omega (arith, wide, i.count, slots-none);
            walking = subst (Walking b) (sym (g.behind k q)) pass-walking;
          }

-- ---- room_for

pub record Rooming (b : List ℕ) (lent : ℕ) (s : Blocks) (n : ℕ) : Type 0 where
  pub passing : Passing b s n
  pub low : n ≤ lent

pub room-start : {map : Bor (List ℕ)} {lent : ℕ} {s : Blocks} → s ≡ record { map = map; at = 0 } → Walking map.now 0 → Rooming map.now lent s 0
room-start e w = record { passing = pass-start e w; low = omega arith }

module _ {b : List ℕ} {lent : ℕ} {s : Blocks} {n : ℕ} (i : Rooming b lent s n) {r : Option Block} {t : Blocks} (g : GivesBlock s r t) where
  module _ {k : Block} (q : r ≡ Some k) where
    module _ {m : ℕ} (e : m ≡ length (distinct (named_by b k.named))) where
      pub room_short : lent - n ≤ m → (Counts ≡ Counts) × (lent < slots_of (finals_at b 0))
      room_short l = (refl, omega (arith, pass-sum i.passing g q e, i.low))

      pub room-on : m < lent - n → Rooming b lent t (n + (1 + m))
      room-on l = record { passing = pass_on i.passing g q e (omega arith); low = omega arith }

-- ---- scan

pub starting-append : (q : ℕ) (xs ys : List Final) → starting q xs ≡ none → starting q (xs ++ ys) ≡ starting q ys
unfolding starting
starting-append q [] ys e = refl
starting-append q (x ∷ xs) ys e = go (eqb q (starts_at x)) (λ z. starting-append q xs ys z) e
  where
    go : (t : Bool) → (starting q xs ≡ none → starting q (xs ++ ys) ≡ starting q ys) → if t (some x) (starting q xs) ≡ none → if t (some x) (starting q (xs ++ ys)) ≡ starting q ys
    go true ih z = let y : some x ≡ none = sym (if-true true (some x) (starting q xs) refl) ∙ z in never (cc)
    go false ih z = if-false false (some x) (starting q (xs ++ ys)) refl ∙ ih (sym (if-false false (some x) (starting q xs) refl) ∙ z)

pub starting-nil : (q : ℕ) → starting q [] ≡ none
unfolding starting
starting-nil q = refl

pub starting-here : (q : ℕ) (f : Final) (fs : List Final) → q ≡ starts_at f → starting q (f ∷ fs) ≡ some f
unfolding starting
starting-here q f fs e = if-true (eqb q (starts_at f)) _ _ (eq-eqb q (starts_at f) e)

pub starting-later : (q : ℕ) (f : Final) (fs : List Final) → (q ≡ starts_at f → ⊥) → starting q (f ∷ fs) ≡ starting q fs
unfolding starting
starting-later q f fs n = if-false (eqb q (starts_at f)) _ _ (ne_eqb q (starts_at f) n)

pub record Scanning (b : List ℕ) (q : ℕ) (s : Blocks) (slot : ℕ) : Type 0 where
  pub passing : Passing b s slot
  pub none_yet : starting q passing.before ≡ none

pub scan-start : {map : Bor (List ℕ)} {q : ℕ} {s : Blocks} → s ≡ record { map = map; at = 0 } → Ready map.now → Scanning map.now q s 0
scan-start {q} e r = rw e (record { passing = record { same = refl; before = []; is = refl; count = sym slots-none; walking = ready-walks r }; none_yet = starting-nil q })

so_far : {b : List ℕ} {q : ℕ} {s : Blocks} {slot : ℕ} → Scanning b q s slot → starting q (finals_at b 0) ≡ starting q (finals_at b s.at)
so_far {b} {q} {s} i = ap (starting q) i.passing.is ∙ starting-append q i.passing.before (finals_at b s.at) i.none_yet

module _ {b : List ℕ} {q : ℕ} {s : Blocks} {slot : ℕ} (i : Scanning b q s slot) {r : Option Block} {t : Blocks} (g : GivesBlock s r t) where
  module _ {k : Block} (z : r ≡ Some k) where
    abbrev first : Begins b s.at k
    first = its-block i.passing g z

    pub scan-at : k.start ≡ q → FoundAt b q k slot
    scan-at e =
        record {
          final = first.final;
          starts = so_far i ∙ ap (starting q) first.here ∙ starting-here q first.final (finals_at b k.named.at) (sym e ∙ first.is.start);
          placed = record {
            before = i.passing.before;
            after = finals_at b k.named.at;
            is = split-here i.passing g z;
            block = first.is;
            slot_is = i.passing.count;
          };
        }

    module _ {m : ℕ} (e : m ≡ length (distinct (named_by b k.named))) where
      pub scan-one : Ready b → Fits w64 (1 + m)
      scan-one d = omega (arith, pass-sum i.passing g z e, d.few)

      pub scan-sum : Ready b → Fits w64 (slot + (1 + m))
      scan-sum d = omega (arith, pass-sum i.passing g z e, d.few)

      pub scan-on : (k.start ≡ q → ⊥) → Scanning b q t (slot + (1 + m))
      scan-on n =
          record {
            passing = pass_on i.passing g z e (omega arith);
            none_yet = starting-append q i.passing.before (first.final ∷ []) i.none_yet
                ∙ starting-later q first.final [] (λ y. n (first.is.start ∙ sym y)) ∙ starting-nil q;
          }

-- ---- row, find

-- one less, where there is one
pub one-none : {a : ℕ} {r : Option ℕ} → SomeIff r (1 ≤ a) (a - 1) → r ≡ None → a ≡ 0
one-none {a} {r} h e = let n : 1 ≤ a → ⊥ = subst (λ (o : Option ℕ). SomeIff o (1 ≤ a) (a - 1)) e h in omega arith

pub one-some : {a : ℕ} {r : Option ℕ} → SomeIff r (1 ≤ a) (a - 1) → {own : ℕ} → r ≡ Some own → a ≡ own + 1
one-some {a} {r} h {own} e = let s = subst (λ (o : Option ℕ). SomeIff o (1 ≤ a) (a - 1)) e h in omega (arith, s.0, s.1)

module _ {b work : List ℕ} {rows q : ℕ} (x : Indexed b work rows) (l : q < rows) where
  module _ {a : ℕ} (g : Holds 8 work (16 * q) a) where
    pub row-none : a ≡ 0 → starting q (finals_at b 0) ≡ none
    row-none z = (x.row q l).empty (sym g.is ∙ z)

    module _ (own : ℕ) (n : a ≡ own + 1) where
      spot : Spot b (finals_at b 0) q own (num_at 8 work (16 * q + 8))
      spot = subst (λ (y : ℕ). Spot b (finals_at b 0) q y (num_at 8 work (16 * q + 8))) (omega (arith, g.is)) ((x.row q l).full (λ z. absurd (omega (arith, g.is))))

      pub row-walking : Walking b own
      row-walking = spot.walking

      module _ {r : Option Block} (h : next_block b own r) where
        pub row-over : r ≡ None → starting q (finals_at b 0) ≡ none
        row-over z = let e : [] ≡ spot.final ∷ spot.after = sym (subst (next_block b own) z h) ∙ spot.here in never (cc)

        pub row_at : {k : Block} → r ≡ Some k → {s : ℕ} → Holds 8 work (16 * q + 8) s → FoundAt b q k s
        row_at {k} z p =
            let t : Begins b own k = subst (next_block b own) z h in
            let same : t.final ∷ finals_at b k.named.at ≡ spot.final ∷ spot.after = sym t.here ∙ spot.here in
            let one : spot.final ≡ t.final = cc in
            record {
              final = t.final;
              starts = spot.starts ∙ ap some one;
              placed = record {
                before = spot.before;
                after = finals_at b k.named.at;
                is = spot.is ∙ ap (λ (fs : List Final). spot.before ++ fs) t.here;
                block = t.is;
                slot_is = p.is ∙ spot.slot_is;
              };
            }

module _ {b work : List ℕ} {rows : Option ℕ} {n : ℕ} (x : Index b work rows) (e : rows ≡ Some n) where
  pub find-index : Indexed b work n
  find-index = x.built e
