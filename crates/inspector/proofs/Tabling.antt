-- The tables stay true: where a number is put, where a block is run, and where W is wiped. Assumes nothing.
use Prim.Native.Nat.{ℕ, ◌+◌, ◌*◌, ◌-◌, ◌%◌, ◌^◌, ◌≤◌, ◌<◌}
use native.Mathlib.Omega.{arith}
use native.Mathlib.Nat.{mod-lt, le_refl}
use native.Mathlib.Decide.{dec_lt}
use mathlib.Core.Path.{◌≡◌, refl, sym, ap, subst, ◌∙◌}
use mathlib.Core.Bool.{Bool, true, false, not}
use mathlib.Core.List.{List}
use mir.Syntax.{w64}
use mir.Val.{Fits}
use lib.Dec.{eqb}
use lib.ListN.{length, replicate, length-replicate}
use borrow.Author.Tests.{eqb-true, eqb-false}
use Rattle.std.specs.Prelude.{Option as Maybe, Some, None, SomeIff}
use Rattle.spec.specs.Lists.{little}
use Rattle.spec.specs.Rooms.{work_need}
use Rattle.spec.specs.Forms.{wide_in}
use Rattle.spec.specs.Reader.{Piece, items}
use Rattle.lent.specs.Bytes.{num_at, Holds, Stored}
use Rattle.lent.proofs.Numbers.{num-zeros, num-prefix}
use Rattle.lent.proofs.Stored.{kept-num, read_back}
use Rattle.exec.specs.Owns.{room_of, Inside}
use Rattle.reader.specs.Walks.{items_from}
use Rattle.reader.proofs.Onward.{from_end}
use Rattle.inspector.specs.Edges.{edge_among, edge_in, Stands, Sought, pair_of}
use Rattle.inspector.specs.Tables.{Slot, TablesTo, Tables, Filled, Between, Joined}
use Rattle.inspector.specs.Symbols.{Lent}
use Rattle.inspector.proofs.Seeking.{off, on}

-- ---- W wiped

pub tables-zero : {b code w w₁ : List ℕ} → Lent code w → w₁ ≡ replicate (length w) 0 → TablesTo b code 0 w₁
tables-zero {b} {code} {w} {w₁} l e =
    record {
      short = l.short;
      room = omega (arith, l.room, ap length e ∙ length-replicate {A = ℕ} (length w) 0);
      slots = λ i h. subst (Slot b code 0 i) (sym (ap (λ (x : List ℕ). num_at 8 x (8 * i)) e ∙ num-zeros 8 (length w) (8 * i)))
          (record { block = λ _ n. absurd (n refl); none = λ _ _ x. refl; edge = λ _ x y s q. absurd (omega arith) });
    }

-- ---- a number put

module _ {b code w w₁ : List ℕ} (t : Tables b code w) {j v : ℕ} (s : Stored 8 w (8 * j) (little 8 v) w₁) (small : v < 2 ^ 64) (new : Slot b code (length b) j v) where
  put-slot : (i : ℕ) → i < 6 * length code → (c : Bool) → eqb i j ≡ c → Slot b code (length b) i (num_at 8 w₁ (8 * i))
  put-slot i h true e =
      let q : i ≡ j = eqb-true i j e in
      subst (λ (k : ℕ). Slot b code (length b) k (num_at 8 w₁ (8 * k))) (sym q) (subst (Slot b code (length b) j) (sym (read_back s (omega arith))) new)
  put-slot i h false e =
      let n : i ≡ j → ⊥ = eqb-false i j e in
      subst (Slot b code (length b) i) (sym (kept-num s 8 (8 * i) (apart n (dec_lt i j)))) (t.slots i h)
    where
      apart : (i ≡ j → ⊥) → Dec (i < j) → 8 * i < 8 * j + 8 → 8 * i + 8 ≤ 8 * j
      apart n (yes l) _ = omega arith
      apart n (no l) u = absurd (n (omega arith))

  pub tables-put : Filled b code w w₁
  tables-put = record {
    tables = record { short = t.short; room = omega (arith, t.room, s.kept); slots = λ i h. put-slot i h (eqb i j) refl };
    kept = s.kept;
  }

-- ---- a block run

pub tables-run : {b code w w₁ : List ℕ} → Tables b code w → Inside code w (work_need (length code)) w₁ → Filled b code w w₁
tables-run {b} {code} {w} {w₁} t i =
    record {
      tables = record {
        short = t.short;
        room = omega (arith, t.room, i.kept);
        slots = λ j h. subst (Slot b code (length b) j) (sym (num-prefix w₁ w (work_need (length code) - room_of code) i.front 8 (8 * j) (omega arith))) (t.slots j h);
      };
      kept = i.kept;
    }

pub tables-lent : {b code w : List ℕ} → Tables b code w → Lent code w
tables-lent t = record { short = t.short; room = t.room }

pub filled-same : {b code w : List ℕ} → Tables b code w → Filled b code w w
filled-same t = record { tables = t; kept = refl }

pub filled-then : {b code w w₁ w₂ : List ℕ} → Filled b code w w₁ → Filled b code w₁ w₂ → Filled b code w w₂
filled-then f g = record { tables = g.tables; kept = g.kept ∙ f.kept }

-- ---- near

module _ {b code w : List ℕ} {from : ℕ} (t : Tables b code w) (h : from < length code) where
  pub near_fits : 8 * from + 8 ≤ length w
  near_fits = omega (arith, t.room)

  module _ {v : ℕ} (g : Holds 8 w (8 * from) v) where
    none-there : (to : ℕ) → v ≡ 0 → Sought b to from false
    unfolding edge_among items_from items
    none-there to z = record { is = sym (ap (λ (l : List Piece). edge_among to from false (items (wide_in b) l)) (from_end b (length b) (le_refl (length b)))) ∙ (t.slots from (omega arith)).none h (sym g.is ∙ z) to }

    stands-there : (v ≡ 0 → ⊥) → Stands b from (v - 1)
    stands-there n = subst (λ (x : ℕ). Stands b from (x - 1)) (sym g.is) ((t.slots from (omega arith)).block h (λ e. n (g.is ∙ e)))

    module _ {o : Maybe ℕ} (less : SomeIff o (1 ≤ v) (v - 1)) where
      less_none : o ≡ None → v ≡ 0
      less_none e = let n : 1 ≤ v → ⊥ = subst (λ (p : Maybe ℕ). SomeIff p (1 ≤ v) (v - 1)) e less in omega arith

      less-some : {i : ℕ} → o ≡ Some i → v ≡ i + 1
      less-some e = let s = subst (λ (p : Maybe ℕ). SomeIff p (1 ≤ v) (v - 1)) e less in omega (arith, s.0, s.1)

      pub near_none : (to : ℕ) → o ≡ None → Sought b to from false
      near_none to e = none-there to (less_none e)

      pub near-stands : {i : ℕ} → o ≡ Some i → Stands b from i
      near-stands {i} e = subst (Stands b from) (omega (arith, less-some e)) (stands-there (λ z. absurd (omega (arith, less-some e))))

-- ---- joined

module _ {b code w : List ℕ} {from to : ℕ} (t : Tables b code w) (h : Between code from to) where
  abbrev n : ℕ
  n = length code

  abbrev slot : ℕ
  slot = n + (from * 251 + to) % (5 * n)

  within : slot < 6 * n
  within =
      let some_there : 0 < 5 * n = omega (arith, h.inside) in
      let l : (from * 251 + to) % (5 * n) < 5 * n = mod-lt _ some_there in
      omega arith

  pub joined-sum : Fits w64 slot
  joined-sum = omega (arith, within, t.short)

  pub joined-place : Fits w64 (8 * slot)
  joined-place = omega (arith, within, t.short)

  pub joined-fits : 8 * slot + 8 ≤ length w
  joined-fits = omega (arith, within, t.room)

  pub joined-known : {v : ℕ} → Holds 8 w (8 * slot) v → v ≡ from * 65536 + to + 1 → Joined b code w from to w true
  joined-known {v} g e = record { is = sym ((t.slots slot within).edge (omega arith) to from h.small (sym g.is ∙ e)); filled = filled-same t }

  module _ {r : Bool} (g : Sought b to from r) where
    pub joined-none : not r ≡ true → Joined b code w from to w false
    joined-none z = record { is = sym (off r z) ∙ g.is; filled = filled-same t }

    pub joined-near : not r ≡ false → {w₁ : List ℕ} → Stored 8 w (8 * slot) (little 8 (from * 65536 + to + 1)) w₁ → Joined b code w from to w₁ true
    joined-near z s = record {
      is = sym (on r z) ∙ g.is;
      filled = tables-put t s (omega (arith, h.inside, h.small, t.short))
          (record { block = λ l. absurd (omega arith); none = λ l. absurd (omega arith); edge = λ _ x y k e. pair_same x y k e });
    }
      where
        pair_same : (x y : ℕ) → x < 65536 → from * 65536 + to + 1 ≡ pair_of y x → edge_in b x y ≡ true
        pair_same x y k e =
            let p : to ≡ x = omega (arith, h.small) in
            let q : from ≡ y = omega (arith, h.small) in
            subst (λ (a : ℕ). edge_in b a y ≡ true) p (subst (λ (a : ℕ). edge_in b to a ≡ true) q (sym g.is ∙ on r z))
