-- The laws of `Puts`: what is put after what was, or right before it. Assumes nothing.
use mathlib.Core.Path.{◌≡◌, refl, ◌∙◌}
use mathlib.Core.List.{List, [], ◌++◌}
use Prim.Native.Nat.{ℕ, ◌+◌, ◌≤◌}
use native.Mathlib.Omega.{arith}
use lib.ListN.{length, length-append}
use Rattle.lent.specs.Bytes.{Stored}
use Rattle.lent.proofs.Patch.{patch-none, patch-join}
use Rattle.lent.proofs.Stored.{stored, stored-under}
use Rattle.output.specs.declared.Output.{Output}
use Rattle.output.specs.Promises.{Puts, PutsFew}

-- nothing, and one after the other
pub puts_none : (o : Output) → Puts 0 o [] o
puts_none o = record { next = omega arith; long = refl; kept = refl; stored = λ g. rw patch-none; same = refl }

pub puts-join : (j k : ℕ) {o o₁ o₂ : Output} {xs ys : List ℕ} → Puts j o xs o₁ → Puts k o₁ ys o₂ → Puts (j + k) o (xs ++ ys) o₂
puts-join j k {o} {o₁} {o₂} {xs} {ys} p q = record {
  next = omega (arith, p.next, q.next);
  long = omega (arith, p.long, q.long, length-append xs ys);
  kept = q.kept ∙ p.kept;
  stored = λ h.
      let place : o₁.end ≡ o.end + length xs = omega (arith, p.next, p.long) in
      q.stored (omega (arith, p.kept)) ∙ rw (p.stored (omega (arith, q.next)), place) (patch-join o.bytes.now o.end xs ys (omega (arith, q.next)));
  same = q.same ∙ p.same;
}

-- the second stands right before the first
pub puts-under : (j k at : ℕ) {o o₁ o₂ : Output} {xs ys : List ℕ} → at + j ≡ o.end → Puts k o ys o₁ → Puts j (record o₁ { end = at }) xs o₂
    → Puts (j + k) (record o { end = at }) (xs ++ ys) (record o₂ { end = o₁.end })
puts-under j k at {o} {o₁} {o₂} {xs} {ys} e q p = record {
  next = omega (arith, q.next);
  long = omega (arith, p.long, q.long, length-append xs ys);
  kept = p.kept ∙ q.kept;
  stored = λ h.
      let late : Stored k o.bytes.now (at + j) ys o₁.bytes.now = rw e (stored k o.bytes.now o.end ys o₁.bytes.now (q.stored h) q.long (omega (arith, q.next))) in
      let early : Stored j o₁.bytes.now at xs o₂.bytes.now = stored j o₁.bytes.now at xs o₂.bytes.now (p.stored (omega (arith, p.next, q.next, q.kept))) p.long (omega (arith, q.next, q.kept)) in
      (stored-under late early).is;
  same = p.same ∙ q.same;
}

-- the same, of bytes that are so many
pub puts-all : {k : ℕ} {o o' : Output} {bs : List ℕ} → Puts k o bs o' → Puts (length bs) o bs o'
puts-all p = rw p.long p

-- bytes that are few, and those after them
pub puts-few : {k : ℕ} {o o' : Output} {bs : List ℕ} (most : ℕ) → Puts k o bs o' → k ≤ most → PutsFew most o bs o'
puts-few most p h = record { puts = puts-all p; few = omega (arith, p.long) }

pub few-join : {j k : ℕ} {o o₁ o₂ : Output} {xs ys : List ℕ} → PutsFew j o xs o₁ → PutsFew k o₁ ys o₂ → PutsFew (j + k) o (xs ++ ys) o₂
few-join {xs} {ys} p q = record {
  puts = puts-all (puts-join (length xs) (length ys) p.puts q.puts);
  few = omega (arith, length-append xs ys, p.few, q.few);
}

pub few-less : {j k : ℕ} {o o' : Output} {bs : List ℕ} → PutsFew j o bs o' → j ≤ k → PutsFew k o bs o'
few-less p h = record { puts = p.puts; few = omega (arith, p.few) }
