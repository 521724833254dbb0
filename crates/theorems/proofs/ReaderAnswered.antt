-- Document 02, "No. 2": "Reading what was written gives it back", of every answered map. Assumes nothing.
use Prim.Native.Nat.{ℕ, ◌≤◌, ◌<◌}
use native.Mathlib.Omega.{arith}
use mathlib.Core.Path.{◌≡◌, refl, sym, ap, subst}
use mathlib.Core.Bool.{Bool, true, false}
use mathlib.Core.List.{List}
use borrow.Author.Tests.{ltb-false}
use Rattle.spec.specs.Opcodes.{Rules}
use Rattle.spec.specs.Blocks.{Kind, terminate, jump, jumpi, dynamic_jump, dynamic_jumpi}
use Rattle.spec.specs.Search.{Found, nowhere, found, Rec, dest}
use Rattle.spec.specs.Ending.{Final}
use Rattle.spec.specs.Rooms.{Lent, longest}
use Rattle.spec.specs.Entries.{wide_code, absent, Map, bytes}
use Rattle.spec.specs.Answer.{answered, answer}
use Rattle.spec.specs.Reader.{holds, read, plain}
use Rattle.laws.proofs.Members.{In, here}
use Rattle.theorems.proofs.Counts.{Lawful}
use Rattle.theorems.proofs.Sides.{Within}
use Rattle.theorems.proofs.Bounds.{RecBounded, BlockBounded, Bounded, answered-bounded}
use Rattle.theorems.proofs.ReaderRead.{FoundFits, KindFits, RecFits, FinalFits, MapFits, read-written}

-- ---- what is bounded fits

module _ (n : ℕ) (small : n ≤ longest) where
  sides-fit : (k : Kind) → Within n k → KindFits k
  sides-fit (terminate success) w = tt
  sides-fit (jump t) w = omega arith
  sides-fit (jumpi t f) w = (omega (arith, w.0), omega (arith, w.1))
  sides-fit dynamic_jump w = tt
  sides-fit (dynamic_jumpi f) w = omega arith

  -- an address in the code is never the number of a missing destination: in a code of at most 24,576 bytes it lies below 0x8000, in a longer one below 0xFFFF
  not-missing : (t : ℕ) → t < n → (wide : Bool) → wide_code n ≡ wide → t ≡ absent wide → ⊥
  not-missing t l true w e = omega arith
  not-missing t l false w e = let short : n ≤ 24576 = ltb-false _ _ w in omega arith

  found-fits : (x : Found) → ((t : ℕ) → In t (dest x) → t < n) → FoundFits (wide_code n) x
  found-fits nowhere h = tt
  found-fits (found t s) h = let l = h t here in (omega arith, not-missing t l (wide_code n) refl)

  rec-fits : (r : Rec) → RecBounded n r → RecFits (wide_code n) r
  rec-fits r b = record { start = omega (arith, b.start); to = found-fits r.to b.to; path = λ a i. omega (arith, b.path a i); long = b.long; number = omega (arith, b.number) }

  final-fits : (f : Final) → BlockBounded n f → FinalFits (wide_code n) f
  final-fits f b = record {
    id = b.id;
    start = omega (arith, b.start);
    end = omega (arith, b.end);
    kind = sides-fit f.block.kind b.sides;
    bare = b.bare;
    many = omega (arith, b.many);
    each = λ r i. rec-fits r (b.each r i);
    own = b.own;
  }

pub bounded-fits : (n : ℕ) (m : Map) → Bounded n m → MapFits m
bounded-fits n m b = record {
  size = omega (arith, b.size, b.size_fits);
  energy = omega (arith, b.energy);
  block_count = omega (arith, b.block_count, b.size_fits);
  record_count = omega (arith, b.record_count);
  rising = b.rising;
  finals = λ f i. subst (λ (k : ℕ). FinalFits (wide_code k) f) (sym b.size) (final-fits n b.size_fits f (b.blocks f i));
  recs = λ r i. subst (λ (k : ℕ). RecFits (wide_code k) r) (sym b.size) (rec-fits n b.size_fits r (b.recs r i));
}

-- ---- every answer

module _ (rules : Rules) (ok : Lawful rules.row) (l : Lent) (limit choice : ℕ) (code : List ℕ) (m : Map) (e : answer rules l limit choice code ≡ answered m) where
  -- Every number of an answered map fits its bytes, and a destination that was found is never the number of a missing one.
  pub answered-fits : MapFits m
  answered-fits = bounded-fits _ m (answered-bounded rules ok l limit choice code m e)

  -- Reading what was written gives it back.
  pub read-answered : read (bytes m) ≡ holds (plain m)
  read-answered = read-written m answered-fits

-- Equal bytes, equal maps, whatever the two runs' modes and choices, but for the states that a search keeps for destinations, which are not written.
pub answered-once : (r q : Rules) → Lawful r.row → Lawful q.row → (l k : Lent) (limit bound choice other : ℕ) (code text : List ℕ) (m a : Map)
    → answer r l limit choice code ≡ answered m → answer q k bound other text ≡ answered a → bytes m ≡ bytes a → plain m ≡ plain a
answered-once r q ok fine l k limit bound choice other code text m a e f w =
    let one = read-answered r ok l limit choice code m e in
    let two = read-answered q fine k bound other text a f in
    let same : read (bytes m) ≡ read (bytes a) = ap read w in
    cc
