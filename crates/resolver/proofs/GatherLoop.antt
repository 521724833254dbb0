-- The loop of `gather`: the targets of more and more records come into the batch. Assumes nothing.
use mathlib.Core.Path.{◌≡◌, refl, sym, ◌∙◌}
use mathlib.Core.List.{List, [], ◌∷◌, ◌++◌, append-nil}
use Prim.Native.Nat.{ℕ, suc, ◌+◌, ◌-◌, ◌≤◌, ◌<◌}
use native.Mathlib.Numerals.{add-one}
use native.Mathlib.Omega.{arith}
use lib.ListN.{length, take, set, length-set}
use lib.Seq.{take-suc-set}
use borrow.Author.Tests.{eq-eqb, ne_eqb}
use Rattle.laws.proofs.Branch.{if-true, if-false}
use Rattle.lent.specs.Bytes.{Holds}
use Rattle.layout.specs.Marks.{NOWHERE}
use Rattle.layout.specs.Records.{record_place, R-TO}
use Rattle.resolver.specs.Turns.{dests_from}
use Rattle.resolver.specs.Batches.{Gathers, Gathered}
use Rattle.resolver.proofs.Destinations.{dest_at, dests-more}

pub record Gathering (r : List ℕ) (from records many i : ℕ) (batch : List ℕ) : Type 0 where
  pub order : from < records
  pub in_r : record_place records ≤ length r
  pub small : records ≤ 1073741824
  pub begun : from ≤ i
  pub most : i ≤ records
  pub few : many ≤ 64
  pub each : from + many ≤ i
  pub are : take many batch ≡ dests_from r from (i - from)
  pub long : length batch ≡ 64

pub gather-start : {r batch : List ℕ} {from records : ℕ} → Gathers r from records batch → Gathering r from records 0 from batch
unfolding dests_from
gather-start {from = from} a =
    let e : from - from ≡ 0 = omega arith in
    record {
      order = a.left;
      in_r = a.in_r;
      small = a.few;
      begun = omega arith;
      most = omega (arith, a.left);
      few = omega arith;
      each = omega arith;
      are = rw e refl;
      long = a.long;
    }

module _ {r batch : List ℕ} {from records many i to : ℕ} (g : Gathering r from records many i batch) (l : i < records) (h : Holds 2 r (record_place i + R-TO) to) where
  next-dests : dests_from r from (i + 1 - from) ≡ dests_from r from (i - from) ++ dest_at r i
  next-dests =
      let e : i + 1 - from ≡ suc (i - from) = omega (arith, g.begun) in
      let f : from + (i - from) ≡ i = omega (arith, g.begun) in
      rw e (rw f at (dests-more r from (i - from)))

  -- a record with no destination
  pub gather-skip : to ≡ NOWHERE → Gathering r from records many (i + 1) batch
  gather-skip z =
      let e : dest_at r i ≡ [] = if-true _ _ _ (eq-eqb _ _ (sym h.is ∙ z)) in
      record {
        order = g.order;
        in_r = g.in_r;
        small = g.small;
        begun = omega (arith, g.begun);
        most = omega arith;
        few = g.few;
        each = omega (arith, g.each);
        are = rw (next-dests, e, append-nil (dests_from r from (i - from))) g.are;
        long = g.long;
      }

  pub gather-turn : (many ≡ 64 → ⊥) → (to ≡ NOWHERE → ⊥) → Gathering r from records (many + 1) (i + 1) (set batch many to)
  gather-turn test ne =
      let e : dest_at r i ≡ to ∷ [] = rw (← h.is) (if-false _ _ _ (ne_eqb _ _ ne)) in
      record {
        order = g.order;
        in_r = g.in_r;
        small = g.small;
        begun = omega (arith, g.begun);
        most = omega arith;
        few = omega (arith, g.few, test);
        each = omega (arith, g.each);
        are = rw (add-one many, take-suc-set batch many to (omega (arith, g.long, g.few, test)), next-dests, e, g.are) refl;
        long = length-set batch many to ∙ g.long;
      }

module _ {r batch : List ℕ} {from records many i : ℕ} (g : Gathering r from records many i batch) where
  -- no record is left
  pub gather-out : records ≤ i → Gathered r from records batch (record { many = many; next = records })
  gather-out h = let end : i ≡ records = omega (arith, g.most) in record {
    on = omega (arith, g.order);
    most = omega arith;
    are = rw end at g.are;
    few = g.few;
    full = λ l. absurd (omega arith);
    long = g.long;
  }

  -- the batch is full
  pub gather-full : many ≡ 64 → Gathered r from records batch (record { many = many; next = i })
  gather-full h =
      record { on = omega (arith, g.each); most = g.most; are = g.are; few = g.few; full = λ l. omega (arith, g.few); long = g.long }
