-- A batch that was gathered is expanded; an empty one changes nothing. Assumes nothing.
use mathlib.Core.Path.{◌≡◌, sym, ap, ◌∙◌}
use mathlib.Core.Logic.{◌⊎◌, inl, inr}
use mathlib.Core.Bool.{false}
use mathlib.Core.List.{List, ◌∷◌}
use Prim.Native.Nat.{ℕ, zero, suc, ◌+◌, ◌-◌, ◌≤◌, ◌<◌, min}
use native.Mathlib.Omega.{arith}
use lib.Dec.{eqb}
use lib.ListN.{length, take, length-take}
use borrow.Author.Tests.{eqb-false}
use Rattle.laws.proofs.Branch.{both}
use Rattle.laws.proofs.Members.{In, here, there, mem-in}
use Rattle.layout.specs.Marks.{NOWHERE}
use Rattle.layout.specs.Records.{to_at}
use Rattle.reachable.specs.Promises.{Expands, Expanded}
use Rattle.reachable.proofs.Frames.{kept-none, kept_but}
use Rattle.reachable.proofs.Entering.{sets-none}
use Rattle.resolver.specs.Turns.{HandsOver, dests_from}
use Rattle.resolver.specs.Batches.{Gathers, Gathered, HandedOver}
use Rattle.resolver.specs.declared.settle.Batch.{Batch}
use Rattle.resolver.proofs.ClosedSet.{closed-own}

-- each destination is an address
in-first : {n a x : ℕ} {xs : List ℕ} → x ≤ n → (In a xs → a ≤ n) → In a (x ∷ xs) → a ≤ n
in-first h k here = h
in-first h k (there i) = k i

dests-within : {n : ℕ} (r : List ℕ) (i m : ℕ) → ((j : ℕ) → j < i + m → (to_at r j ≡ NOWHERE) ⊎ (to_at r j ≤ n)) → {a : ℕ} → In a (dests_from r i m) → a ≤ n
unfolding dests_from
dests-within r i zero h k = elim k [ ]
dests-within {n} r i (suc m) h {a} k =
    let later : In a (dests_from r (suc i) m) → a ≤ n = dests-within r (suc i) m (λ j l. h j (omega arith)) in
    both (λ (l : List ℕ). In a l → a ≤ n) (eqb (to_at r i) NOWHERE) (λ _. later) (λ off. in-first (near off (h i (omega arith))) later) k
  where
    near : eqb (to_at r i) NOWHERE ≡ false → (to_at r i ≡ NOWHERE) ⊎ (to_at r i ≤ n) → to_at r i ≤ n
    near off (inl e) = absurd (eqb-false _ _ off e)
    near off (inr l) = l

pub hand-gathers : {n from records : ℕ} {w r batch : List ℕ} → HandsOver n w r from records → from < records → length batch ≡ 64 → Gathers r from records batch
hand-gathers s l h = record { left = l; in_r = s.in_r; few = s.few; long = h }

module _ {n from records : ℕ} {w r batch : List ℕ} {b : Batch} (s : HandsOver n w r from records) (g : Gathered r from records batch b) where
  abbrev seeds : List ℕ
  seeds = dests_from r from (b.next - from)

  count : length seeds ≡ b.many
  count =
      let e : min b.many (length batch) ≡ b.many = omega (arith, g.few, g.long) in
      ap length (sym g.are) ∙ length-take b.many batch ∙ e

  handed : {w' : List ℕ} → Expanded n w seeds (records + 1) w' → HandedOver n w r from records w' b.next
  handed x = record { on = g.on; most = g.most; few = omega (arith, count, g.few); full = λ l. count ∙ g.full l; expanded = x }

  -- an empty batch changes nothing
  pub hand-none : b.many ≡ 0 → HandedOver n w r from records w b.next
  hand-none z = handed (rw (← g.are, z) (record { reached = closed-own s.closed; sets = sets-none n (records + 1) w; closed = s.closed; high = s.high; kept = kept_but kept-none }))

  -- the part of the batch that is lent
  lent-part : take (b.many - 0) batch ≡ seeds
  lent-part = let e : b.many - 0 ≡ b.many = omega arith in rw e g.are

  pub hand-expands : Expands n w (take (b.many - 0) batch) (records + 1)
  hand-expands = record {
    lent = s.lent;
    inside = λ a h. dests-within r from (b.next - from) (λ j l. s.goes j (omega (arith, g.on, g.most))) (mem-in a seeds (rw lent-part at h));
    some = omega arith;
    small = omega (arith, s.few);
    within = s.within;
    closed = s.closed;
    high = s.high;
  }

  pub hand-done : {w' : List ℕ} → Expanded n w (take (b.many - 0) batch) (records + 1) w' → HandedOver n w r from records w' b.next
  hand-done x = handed (rw lent-part at x)
