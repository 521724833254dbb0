-- Where a block's own run can go, and what its stack holds: a Before is no deeper than its instructions reach. Assumes nothing.
use mathlib.Core.Option.{Option, none, some}
use mathlib.Core.List.{List, [], ◌∷◌, ◌++◌}
use Prim.Native.Nat.{ℕ, zero, suc, ◌+◌, ◌*◌, ◌^◌, ◌≤◌, ◌<◌}
use native.Mathlib.Omega.{arith}
use lib.Dec.{eqb, leb, ltb}
use lib.ListN.{length, get_or, drop, replicate}
use borrow.Author.Tests.{leb-true}
use Rattle.spec.specs.Lists.{within}
use Rattle.spec.specs.Opcodes.{row, in_mode}
use Rattle.spec.specs.Walk.{Ins, instructions, from}
use Rattle.spec.specs.Stacks.{Sym, before, constant, jumpdest, other, known_value, from_value, is, mask, anded, summed, Stack, entry, reads, read, span, pops, push, pushes, swap, trade, Does, pushes_value, pushes_pc, dups, swaps, ands, adds, jumps, jumpis, lands, halts, plain, does, act, Ran, after, runs, joins, settle, trims, trim, run, first_known}
use Rattle.laws.proofs.Branch.{both}
use Rattle.laws.proofs.Members.{and_both}
use Rattle.theorems.proofs.Counts.{lawful}
use Rattle.theorems.proofs.Walking.{Walked, stops, steps, walked}
use Rattle.state.specs.Cells.{depth, deepest, reach}
use Rattle.state.proofs.Reach.{reach-is}

-- ---- symbols: a Before below m

abbrev pub Fits : ℕ → Sym → Type 0
Fits m (before p) = p < m
Fits m (constant v) = Unit {0}
Fits m (jumpdest t) = Unit {0}
Fits m (other pc) = Unit {0}

data All (m : ℕ) : List Sym → Type 0 where
  no_more : All m []
  and_more : {x : Sym} {xs : List Sym} → Fits m x → All m xs → All m (x ∷ xs)

-- after k instructions
record Sound (k : ℕ) (s : Stack) : Type 0 where
  all : All (17 * k + 17) s.above
  low : s.base ≤ 17 * k

fits_more : (m l : ℕ) → m ≤ l → (x : Sym) → Fits m x → Fits l x
fits_more m l h (before p) f = omega arith
fits_more m l h (constant v) f = tt
fits_more m l h (jumpdest t) f = tt
fits_more m l h (other pc) f = tt

all_more : {m l : ℕ} {xs : List Sym} → m ≤ l → All m xs → All l xs
all_more h no_more = no_more
all_more {m} {l} h (and_more {x} f a) = and_more (fits_more m l h x f) (all_more h a)

sound_more : {k m : ℕ} {s : Stack} → k ≤ m → Sound k s → Sound m s
sound_more h o = record { all = all_more (omega arith) o.all; low = omega (arith, o.low) }

fits-deep : (m : ℕ) (x : Sym) → Fits m x → depth x ≤ m
fits-deep m (before p) f = omega arith
fits-deep m (constant v) f = omega arith
fits-deep m (jumpdest t) f = omega arith
fits-deep m (other pc) f = omega arith

all-deep : {m : ℕ} {xs : List Sym} → All m xs → deepest xs ≤ m
unfolding deepest
all-deep no_more = omega arith
all-deep {m} (and_more {x} f a) = omega (arith, fits-deep m x f, all-deep a)

module _ {m : ℕ} where
  all_drop : (k : ℕ) {xs : List Sym} → All m xs → All m (drop k xs)
  all_drop zero a = a
  all_drop (suc k) no_more = no_more
  all_drop (suc k) (and_more f a) = all_drop k a

  all_append : {xs ys : List Sym} → All m xs → All m ys → All m (xs ++ ys)
  all_append no_more b = b
  all_append (and_more f a) b = and_more f (all_append a b)

  all_others : (k pc : ℕ) → All m (replicate k (other pc))
  all_others zero pc = no_more
  all_others (suc k) pc = and_more tt (all_others k pc)

  fits-reads : {xs : List Sym} (base i : ℕ) → All m xs → base + i < m → Fits m (reads xs base i)
  fits-reads base i no_more h = h
  fits-reads base zero (and_more f a) h = f
  fits-reads base (suc i) (and_more f a) h = fits-reads base i a (omega arith)

value-fits : (code : List ℕ) (m v : ℕ) → Fits m (from_value code v)
value-fits code m v = both (Fits m) (eqb (get_or code v 0) 0x5B) (λ _. tt) (λ _. tt)

-- ---- one instruction

-- what an instruction does, with how deep it looks
abbrev Near : Does → Type 0
Near pushes_value = Unit {0}
Near pushes_pc = Unit {0}
Near (dups i) = i ≤ 15
Near (swaps i) = i ≤ 15
Near ands = Unit {0}
Near adds = Unit {0}
Near jumps = Unit {0}
Near jumpis = Unit {0}
Near lands = Unit {0}
Near halts = Unit {0}
Near plain = Unit {0}

module _ (mode : ℕ) (code : List ℕ) {k : ℕ} {s : Stack} (o : Sound k s) where
  abbrev Next : Stack → Type 0
  Next t = Sound (suc k) t

  abbrev FitsNext : Sym → Type 0
  FitsNext x = Fits (17 * suc k + 17) x

  later : All (17 * suc k + 17) s.above
  later = all_more (omega arith) o.all

  read-now : (i : ℕ) → i ≤ 16 → Fits (17 * k + 17) (read s i)
  unfolding read
  read-now i h = fits-reads s.base i o.all (omega (arith, o.low))

  read_fits : (i : ℕ) → i ≤ 16 → FitsNext (read s i)
  read_fits i h = fits_more (17 * k + 17) (17 * suc k + 17) (omega arith) (read s i) (read-now i h)

  pops-next : (i : ℕ) → i ≤ 17 → Next (pops i s)
  pops-next i h = record { all = all_drop i later; low = omega (arith, o.low) }

  push-next : (x : Sym) → FitsNext x → Next (push x s)
  push-next x f = record { all = and_more f later; low = omega (arith, o.low) }

  pushes-next : (i : ℕ) {xs : List Sym} → i ≤ 17 → All (17 * suc k + 17) xs → Next (pushes xs (pops i s))
  pushes-next i h a = let p = pops-next i h in record { all = all_append a p.all; low = p.low }

  replace-next : (x : Sym) → FitsNext x → Next (push x (pops 2 s))
  replace-next x f = let p = pops-next 2 (omega arith) in record { all = and_more f p.all; low = p.low }

  anded-fits : (pc : ℕ) → FitsNext (anded pc (read s 0) (read s 1))
  anded-fits pc =
      both FitsNext (is mask (known_value (read s 0))) (λ _. read_fits 1 (omega arith))
      (λ _. both FitsNext (is mask (known_value (read s 1))) (λ _. read_fits 0 (omega arith)) (λ _. tt))

  summed-fits : (pc : ℕ) (v u : Option ℕ) → FitsNext (summed code pc v u)
  summed-fits pc none none = tt
  summed-fits pc none (some u) = tt
  summed-fits pc (some v) none = tt
  summed-fits pc (some v) (some u) = both FitsNext (ltb (v + u) (2 ^ 64)) (λ _. value-fits code (17 * suc k + 17) (v + u)) (λ _. tt)

  span_fits : (i j : ℕ) → i + j ≤ 17 → All (17 * suc k + 17) (span s i j)
  span_fits i zero h = no_more
  span_fits i (suc j) h = and_more (read_fits i (omega arith)) (span_fits (suc i) j (omega arith))

  swap-next : (i : ℕ) → i ≤ 15 → Next (swap i s)
  swap-next i h =
      pushes-next (suc (suc i)) (omega arith)
      (and_more (read_fits (suc i) (omega arith)) (all_append (span_fits 1 i (omega arith)) (and_more (read_fits 0 (omega arith)) no_more)))

  trade-next : (i : Ins) → Next (trade row i s)
  trade-next i = pushes-next (row i.op).taken (lawful.few i.op) (all_others (row i.op).given i.pc)

  act-next : (i : Ins) (d : Does) → Near d → Next (act row code i d s)
  unfolding act
  act-next i pushes_value h = push-next _ (value-fits code (17 * suc k + 17) i.arg)
  act-next i pushes_pc h = push-next _ (value-fits code (17 * suc k + 17) i.pc)
  act-next i (dups j) h = push-next _ (read_fits j (omega arith))
  act-next i (swaps j) h = swap-next j h
  act-next i ands h = replace-next _ (anded-fits i.pc)
  act-next i adds h = replace-next _ (summed-fits i.pc (known_value (read s 0)) (known_value (read s 1)))
  act-next i jumps h = pops-next 1 (omega arith)
  act-next i jumpis h = pops-next 2 (omega arith)
  act-next i lands h = record { all = later; low = omega (arith, o.low) }
  act-next i halts h = trade-next i
  act-next i plain h = trade-next i

near : (mode b : ℕ) → Near (does mode b)
unfolding does
near mode b =
    both Near (within (first_known mode) 0x63 b) (λ _. tt)
    (λ _. both Near (eqb b 0x58) (λ _. tt)
    (λ _. both Near (within 0x80 0x8F b) (λ e. omega (arith, leb-true b 0x8F (and_both (leb 0x80 b) (leb b 0x8F) e).1))
    (λ _. both Near (within 0x90 0x9F b) (λ e. omega (arith, leb-true b 0x9F (and_both (leb 0x90 b) (leb b 0x9F) e).1))
    (λ _. both Near (eqb b 0x16) (λ _. tt)
    (λ _. both Near (eqb b 0x01) (λ _. tt)
    (λ _. both Near (eqb b 0x56) (λ _. tt)
    (λ _. both Near (eqb b 0x57) (λ _. tt)
    (λ _. both Near (eqb b 0x5B) (λ _. tt) (λ _. both Near _ (λ _. tt) (λ _. tt))))))))))

-- ---- the run

-- where a run goes, if it goes anywhere
abbrev pub Goes : ℕ → Option Sym → Type 0
Goes m none = Unit {0}
Goes m (some x) = Fits m x

-- where it goes, and the stack that it leaves, after m instructions at most
record Ends (m : ℕ) (r : Ran) : Type 0 where
  goes : Goes (17 * m + 17) r.goes
  stack : Sound m r.stack

module _ (mode : ℕ) (code : List ℕ) (start : ℕ) where
  leaps : {k : ℕ} {s t : Stack} → Sound k s → Sound (suc k) t → (m : ℕ) → suc k ≤ m
      → Ends m (record { stack = t; goes = some (read s 0) })
  leaps {k} {s} o p m h =
      record { goes = fits_more (17 * k + 17) (17 * m + 17) (omega arith) (read s 0) (read-now mode code o 0 (omega arith)); stack = sound_more h p }

  after-ends : {k : ℕ} {s t : Stack} → Sound k s → Sound (suc k) t → (m : ℕ) → suc k ≤ m
      → (i : Ins) (on : Ran) → Ends m on → (d : Does) → Ends m (after start i s t on d)
  after-ends o p m h i on e pushes_value = e
  after-ends o p m h i on e pushes_pc = e
  after-ends o p m h i on e (dups n) = e
  after-ends o p m h i on e (swaps n) = e
  after-ends o p m h i on e ands = e
  after-ends o p m h i on e adds = e
  after-ends o p m h i on e jumps = leaps o p m h
  after-ends o p m h i on e jumpis = leaps o p m h
  after-ends o p m h i on e lands = both (Ends m) (eqb i.pc start) (λ _. e) (λ _. record { goes = tt; stack = sound_more (omega arith) o })
  after-ends o p m h i on e halts = record { goes = tt; stack = sound_more h p }
  after-ends o p m h i on e plain = e

  runs-ends : (is : List Ins) {k : ℕ} {s : Stack} → Sound k s → (m : ℕ) → k + length is ≤ m → Ends m (runs (in_mode mode) code start is s)
  runs-ends [] o m h = record { goes = tt; stack = sound_more (omega arith) o }
  runs-ends (i ∷ is) o m h =
      let d = does mode i.op in
      let p = act-next mode code o i d (near mode i.op) in
      after-ends o p m (omega arith) i _ (runs-ends is p m (omega arith)) d

-- no walk has more instructions than the code has bytes
walk-short : {code : List ℕ} {at : ℕ} {is : List Ins} → Walked code at is → at ≤ length code → at + length is ≤ length code
walk-short (stops h) l = omega arith
walk-short (steps s w) l = let r = walk-short w (omega arith) in omega arith

from-short : (a : ℕ) (is : List Ins) → length (from a is) ≤ length is
from-short a [] = omega arith
from-short a (i ∷ is) =
    let r = from-short a is in
    both (λ (l : List Ins). length l ≤ length (i ∷ is)) (leb a i.pc) (λ _. omega arith) (λ _. omega arith)

begun : Sound 0 entry
begun = record { all = no_more; low = omega arith }

-- ---- a trimmed stack: no symbol is new

sound-settle : {k : ℕ} (x : Sym) (xs : List Sym) (base : ℕ) → Fits (17 * k + 17) x → Sound k (record { above = xs; base = base })
    → Sound k (settle x xs base)
sound-settle {k} x [] base f o =
    both (Sound k) (joins x base) (λ _. record { all = no_more; low = omega (arith, o.low) }) (λ _. record { all = and_more f no_more; low = o.low })
sound-settle x (y ∷ ys) base f o = record { all = and_more f o.all; low = o.low }

sound-trims : {k : ℕ} {xs : List Sym} {base : ℕ} → All (17 * k + 17) xs → base ≤ 17 * k → Sound k (trims xs base)
sound-trims no_more h = record { all = no_more; low = h }
sound-trims {base = base} (and_more {x} {xs} f a) h = sound-settle x (trims xs base).above (trims xs base).base f (sound-trims a h)

-- ---- the whole run, from any place

module _ (mode : ℕ) (code : List ℕ) (start : ℕ) where
  ran : Ends (length code) (runs (in_mode mode) code start (from start (instructions code)) entry)
  ran =
      let few = walk-short (walked code) (omega arith) in
      runs-ends mode code start (from start (instructions code)) begun (length code) (omega (arith, from-short start (instructions code)))

  own : Sound (length code) (run (in_mode mode) code (instructions code) start).stack
  unfolding run trim
  own = let o = ran.stack in sound-trims o.all o.low

  pub run-goes : Goes (17 * length code + 17) (run (in_mode mode) code (instructions code) start).goes
  unfolding run
  run-goes = ran.goes

  pub run-deep : reach (run (in_mode mode) code (instructions code) start).stack ≤ 17 * length code + 17
  run-deep = let o = own in omega (arith, reach-is (run (in_mode mode) code (instructions code) start).stack, all-deep o.all, o.low)
