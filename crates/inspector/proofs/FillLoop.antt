-- The rows of the blocks, an entry after the other: up to where the walk stands each block has its row, and no other address has one. Assumes nothing.
use Prim.Native.Nat.{ℕ, suc, ◌+◌, ◌*◌, ◌-◌, ◌^◌, ◌≤◌, ◌<◌}
use native.Mathlib.Omega.{arith}
use native.Mathlib.Decide.{dec_lt}
use mathlib.Core.Path.{◌≡◌, refl, sym, ap, subst, ◌∙◌}
use mathlib.Core.Bool.{Bool, true, false}
use mathlib.Core.List.{List, [], ◌∷◌}
use lib.Dec.{eqb}
use lib.ListN.{length}
use borrow.Author.Tests.{eq-eqb, ne_eqb, eqb-true, eqb-false}
use Rattle.std.specs.Prelude.{Option as Maybe, Some, None, Result, Ok, Err}
use Rattle.spec.specs.Lists.{if, mem, little}
use Rattle.spec.specs.Ending.{Final}
use Rattle.spec.specs.Reader.{Item, finals_in}
use Rattle.laws.proofs.Lists.{Rising, one_more}
use Rattle.theorems.proofs.Answered.{finals-at}
use Rattle.theorems.proofs.ReaderPlaces.{never}
use Rattle.lent.specs.Bytes.{num_at, Stored}
use Rattle.lent.proofs.Stored.{kept-num, read_back}
use Rattle.reader.specs.Shapes.{item_of}
use Rattle.reader.specs.Walks.{walk_at, items_from, Walking}
use Rattle.reader.specs.declared.entry.Entry.{Entry}
use Rattle.reader.specs.declared.entry.Entry.TheVariants.{Head, Terminate, Jump, Jumpi, DynamicJump, DynamicJumpi, Way, Record}
use Rattle.reader.specs.declared.entry.Fault.{Fault}
use Rattle.reader.specs.declared.walk.Step.{Step}
use Rattle.reader.proofs.Walked.{Steps, stepping}
use Rattle.inspector.specs.Edges.{Ready, edge_among, edge_from, edge_in, sight_by, sight_of, Stands}
use Rattle.inspector.specs.Symbols.{Lent}
use Rattle.inspector.specs.Tables.{Slot, TablesTo, Filled, Noted}
use Rattle.inspector.specs.Entries.{start_in}
use Rattle.inspector.specs.declared.seek.Sight.TheVariants.{Other}
use Rattle.inspector.proofs.Seeking.{ready-walks, goes_on, walk_here, walk_end, edge-step, none_below, all-rise}

-- ---- an entry is a block, or none

data Kind (b : List ℕ) (e : Result Entry Fault) : Type 0 where
  is_block : (s : ℕ) → start_in e ≡ Some s → ((y x : ℕ) → (own : Bool) → eqb y s ≡ own → (leads : Bool) × (sight_of e false y x ≡ sight_by own leads))
      → ((is : List Item) → (f : Final) × (finals_in (item_of b e ∷ is) ≡ f ∷ finals_in is) × (f.block.start ≡ s)) → Kind b e
  no_block : start_in e ≡ None → ((y x : ℕ) → sight_of e false y x ≡ Other) → ((is : List Item) → finals_in (item_of b e ∷ is) ≡ finals_in is) → Kind b e

kind : (b : List ℕ) (e : Result Entry Fault) → Kind b e
unfolding finals_in if
kind b (Ok (Terminate s d ok)) = is_block s refl (λ y x own q. (false, ap (λ (c : Bool). sight_by c (false)) q)) (λ is. (_, refl, refl))
kind b (Ok (Jump s d t)) = is_block s refl (λ y x own q. (mem x (t ∷ []), ap (λ (c : Bool). sight_by c (mem x (t ∷ []))) q)) (λ is. (_, refl, refl))
kind b (Ok (Jumpi s d t f)) = is_block s refl (λ y x own q. (mem x (t ∷ f ∷ []), ap (λ (c : Bool). sight_by c (mem x (t ∷ f ∷ []))) q)) (λ is. (_, refl, refl))
kind b (Ok (DynamicJump s d n)) = is_block s refl (λ y x own q. (false, ap (λ (c : Bool). sight_by c (false)) q)) (λ is. (_, refl, refl))
kind b (Ok (DynamicJumpi s d f n)) = is_block s refl (λ y x own q. (mem x (f ∷ []), ap (λ (c : Bool). sight_by c (mem x (f ∷ []))) q)) (λ is. (_, refl, refl))
kind b (Ok (Way t p n)) = no_block refl (λ y x. refl) (λ is. refl)
kind b (Ok (Record s t v p n)) = no_block refl (λ y x. refl) (λ is. refl)
kind b (Ok (Head s n m x)) = no_block refl (λ y x. refl) (λ is. refl)
kind b (Err fault) = no_block refl (λ y x. refl) (λ is. refl)

-- ---- the loop

pub record Filling (b code w₀ : List ℕ) (at : ℕ) (w : List ℕ) : Type 0 where
  pub walking : Walking b at
  pub low : ℕ
  pub rises : Rising low (finals-at (finals_in (items_from b at)))
  pub before : (y x : ℕ) → low ≤ y → edge_from b x y false at ≡ edge_in b x y
  pub tables : TablesTo b code at w
  pub kept : length w ≡ length w₀

pub fill_start : {b code w : List ℕ} → Ready b → TablesTo b code 0 w → Filling b code w 0 w
fill_start y t = record { walking = ready-walks y; low = 0; rises = all-rise y; before = λ y x l. refl; tables = t; kept = refl }

split-rise : (f : Final) (fs : List Final) {lo : ℕ} → Rising lo (finals-at (f ∷ fs)) → (lo ≤ f.block.start) × Rising (suc f.block.start) (finals-at fs)
split-rise f fs (one_more l r) = (l, r)

module _ {b code w₀ : List ℕ} {at : ℕ} {w : List ℕ} (i : Filling b code w₀ at w) {r : Maybe Step} (h : r ≡ walk_at b at) where
  pub fill-over : r ≡ None → Filled b code w₀ w
  fill-over q = record { tables = subst (λ (n : ℕ). TablesTo b code n w) (walk_end b at i.walking h q) i.tables; kept = i.kept }

  module _ {v : Step} (q : r ≡ Some v) where
    abbrev to : ℕ
    to = v.behind

    abbrev e : Result Entry Fault
    e = v.entry

    step : Steps b at e to
    step = stepping i.walking h q

    pub fill-in : at < length b
    fill-in = omega (arith, step.on, step.inside)

    pub fill-lent : Lent code w
    fill-lent = record { short = i.tables.short; room = i.tables.room }

    pub fill-less : length b - to < length b - at
    fill-less = omega (arith, step.on, step.inside)

    -- an entry that is none of y
    same-on : (y x : ℕ) → sight_of e false y x ≡ Other → edge_from b x y false at ≡ edge_from b x y false to
    same-on y x z = ap (edge_among x y false) step.item ∙ edge-step x y (items_from b to) b e false ∙ ap (goes_on x y (items_from b to)) z

    finals-on : {fs : List Final} → finals_in (item_of b e ∷ items_from b to) ≡ fs → Rising i.low (finals-at fs)
    finals-on k = subst (λ (fs : List Final). Rising i.low (finals-at fs)) (ap finals_in step.item ∙ k) i.rises

    slot-on : (j : ℕ) {v : ℕ} → Slot b code at j v → (j < length code → (x : ℕ) → sight_of e false j x ≡ Other) → Slot b code to j v
    slot-on j o k = record { block = o.block; none = λ l z x. sym (same-on j x (k l x)) ∙ o.none l z x; edge = o.edge }

    module _ (small : length b < 2 ^ 64) {start : Maybe ℕ} {w₁ : List ℕ} (n : start ≡ start_in e) (g : Noted code w start at w₁) where
      fill_none : start_in e ≡ None → ((y x : ℕ) → sight_of e false y x ≡ Other) → ((is : List Item) → finals_in (item_of b e ∷ is) ≡ finals_in is) → Filling b code w₀ to w₁
      fill_none s o f =
          let same : w₁ ≡ w = g.none (n ∙ s) in
          record {
            walking = step.walking;
            low = i.low;
            rises = finals-on (f (items_from b to));
            before = λ y x l. sym (same-on y x (o y x)) ∙ i.before y x l;
            tables = subst (TablesTo b code to) (sym same)
                (record { short = i.tables.short; room = i.tables.room; slots = λ j l. slot-on j (i.tables.slots j l) (λ _ x. o j x) });
            kept = ap length same ∙ i.kept;
          }

      module _ (s : ℕ) (is-s : start_in e ≡ Some s) (o : (y x : ℕ) (own : Bool) → eqb y s ≡ own → (leads : Bool) × (sight_of e false y x ≡ sight_by own leads))
          (f : (is : List Item) → (f : Final) × (finals_in (item_of b e ∷ is) ≡ f ∷ finals_in is) × (f.block.start ≡ s)) where
        start_is : start ≡ Some s
        start_is = n ∙ is-s

        other : (y x : ℕ) → (y ≡ s → ⊥) → sight_of e false y x ≡ Other
        other y x d = (o y x false (ne_eqb y s d)).1

        here-block : (i.low ≤ s) × Rising (suc s) (finals-at (finals_in (items_from b to)))
        here-block =
            let k = f (items_from b to) in
            let p = split-rise k.0 (finals_in (items_from b to)) (finals-on k.1) in
            subst (λ (a : ℕ). (i.low ≤ a) × Rising (suc a) (finals-at (finals_in (items_from b to)))) k.2 p

        stands : Stands b s at
        stands = record {
          walking = i.walking;
          own = λ x z. mine x (subst (λ (d : Result Entry Fault). sight_of d false s x ≡ Other) (sym (walk_here b at h q).0) z);
          lone = λ x. subst (λ (m : ℕ). edge_from b x s false m ≡ false) (walk_here b at h q).1 (none_below x s (items_from b to) here-block.1 (omega arith));
          same = λ x. i.before s x here-block.0;
        }
          where
            is_other : (leads : Bool) → sight_by true leads ≡ Other → ⊥
            is_other true k = never (cc)
            is_other false k = never (cc)

            mine : (x : ℕ) → sight_of e false s x ≡ Other → ⊥
            mine x z = let k = o s x true (eq-eqb s s refl) in is_other k.0 (sym k.1 ∙ z)

        slot-put : s < length code → (j : ℕ) → j < 6 * length code → (c : Bool) → eqb j s ≡ c → Slot b code to j (num_at 8 w₁ (8 * j))
        slot-put l j k true e₁ =
            let d : Stored 8 w (8 * s) (little 8 (at + 1)) w₁ = g.there start_is l in
            let at-s : j ≡ s = eqb-true j s e₁ in
            subst (λ (a : ℕ). Slot b code to a (num_at 8 w₁ (8 * a))) (sym at-s)
            (subst (Slot b code to s) (sym (read_back d (omega (arith, small, fill-in))))
            (record {
              block = λ _ _. subst (Stands b s) back stands;
              none = λ _ z. absurd (omega (arith, z));
              edge = λ m. absurd (omega (arith, l, m));
            }))
          where
            back : at ≡ at + 1 - 1
            back = omega arith
        slot-put l j k false e₁ =
            let d : Stored 8 w (8 * s) (little 8 (at + 1)) w₁ = g.there start_is l in
            let m : j ≡ s → ⊥ = eqb-false j s e₁ in
            subst (Slot b code to j) (sym (kept-num d 8 (8 * j) (apart m (dec_lt j s)))) (slot-on j (i.tables.slots j k) (λ _ x. other j x m))
          where
            apart : (j ≡ s → ⊥) → Dec (j < s) → 8 * j < 8 * s + 8 → 8 * j + 8 ≤ 8 * s
            apart m (yes a) _ = omega arith
            apart m (no a) u = absurd (m (omega arith))

        fill-block : Filling b code w₀ to w₁
        fill-block = by-room (dec_lt s (length code))
          where
            before_on : (y x : ℕ) → suc s ≤ y → edge_from b x y false to ≡ edge_in b x y
            before_on y x l = sym (same-on y x (other y x (λ e₁. omega (arith, e₁, l)))) ∙ i.before y x (omega (arith, here-block.0))

            by-room : Dec (s < length code) → Filling b code w₀ to w₁
            by-room (yes l) =
                let d = g.there start_is l in
                record {
                  walking = step.walking;
                  low = suc s;
                  rises = here-block.1;
                  before = before_on;
                  tables = record { short = i.tables.short; room = omega (arith, i.tables.room, d.kept); slots = λ j k. slot-put l j k (eqb j s) refl };
                  kept = d.kept ∙ i.kept;
                }
            by-room (no l) =
                let same : w₁ ≡ w = g.past start_is (omega (arith, l)) in
                record {
                  walking = step.walking;
                  low = suc s;
                  rises = here-block.1;
                  before = before_on;
                  tables = subst (TablesTo b code to) (sym same)
                      (record { short = i.tables.short; room = i.tables.room; slots = λ j k. slot-on j (i.tables.slots j k) (λ m x. other j x (λ e₁. l (omega (arith, e₁, m)))) });
                  kept = ap length same ∙ i.kept;
                }

      pub fill_on : Filling b code w₀ to w₁
      fill_on = by_kind (kind b e)
        where
          by_kind : Kind b e → Filling b code w₀ to w₁
          by_kind (is_block s k o f) = fill-block s k o f
          by_kind (no_block s o f) = fill_none s o f
