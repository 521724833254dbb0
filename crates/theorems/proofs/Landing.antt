-- Every Jumpdest of a stack is an address of the code, since a byte 5B stands there: of a block's own run, and of composed ones. Assumes nothing.
use Prim.Native.Nat.{ℕ, zero, suc, ◌<◌}
use mathlib.Core.Path.{◌≡◌, refl, subst}
use mathlib.Core.List.{List}
use mathlib.Core.Option.{Option, none, some}
use lib.ListN.{length}
use Rattle.spec.specs.Opcodes.{Rules}
use Rattle.spec.specs.Walk.{Ins, from}
use Rattle.spec.specs.Stacks.{Sym, before, constant, jumpdest, other, Stack, reads, read, Ran, run, through, compose}
use Rattle.laws.proofs.Members.{In, here, there}
use Rattle.theorems.proofs.Composing.{read-compose}
use Rattle.theorems.proofs.Marks.{Mark, MarksRan, marks_block, mark-inside}

-- a Jumpdest lies below n
abbrev pub Lands : ℕ → Sym → Type 0
Lands n (before p) = Unit {0}
Lands n (constant v) = Unit {0}
Lands n (jumpdest t) = t < n
Lands n (other pc) = Unit {0}

-- every one that is read does
pub record Sound (n : ℕ) (s : Stack) : Type 0 where
  at : (i : ℕ) → Lands n (read s i)

-- what is read of a sound stack
pub lands-read : {n : ℕ} {s : Stack} → Sound n s → (i : ℕ) → Lands n (read s i)
lands-read o = o.at

mark-lands : (code : List ℕ) (x : Sym) → Mark code x → Lands (length code) x
mark-lands code (before p) m = tt
mark-lands code (constant v) m = tt
mark-lands code (jumpdest t) m = mark-inside code t m
mark-lands code (other pc) m = tt

-- where a run goes, if it goes anywhere
abbrev pub Goes : ℕ → Option Sym → Type 0
Goes n none = Unit {0}
Goes n (some x) = Lands n x

pub record Ends (n : ℕ) (r : Ran) : Type 0 where
  pub goes : Goes n r.goes
  pub stack : Sound n r.stack

mark-ends : (code : List ℕ) {r : Ran} → MarksRan code r → Ends (length code) r
mark-ends code {r} m = record { goes = split r.goes refl; stack = record { at = λ i. mark-lands code (read r.stack i) (m.stack.at i) } }
  where
    split : (g : Option Sym) → r.goes ≡ g → Goes (length code) g
    split none e = tt
    split (some x) e = mark-lands code x (m.goes x e)

-- a block's own run
pub run_ends : (rules : Rules) (code : List ℕ) (is : List Ins) (start : ℕ) → Ends (length code) (run rules code is start)
unfolding run
run_ends rules code is start = mark-ends code (marks_block code rules start (from start is))

pub run-lands : (rules : Rules) (code : List ℕ) (is : List Ins) (start t : ℕ) → In (jumpdest t) (run rules code is start).stack.above → t < length code
unfolding read
run-lands rules code is start t i = let g = depth-of _ i in subst (Lands (length code)) g.1 ((run_ends rules code is start).stack.at g.0)
  where
    depth-of : {xs : List Sym} (base : ℕ) → In (jumpdest t) xs → (n : ℕ) × (reads xs base n ≡ jumpdest t)
    depth-of base here = (zero, refl)
    depth-of base (there j) = let g = depth-of base j in (suc g.0, g.1)

-- ---- composed

module _ {n : ℕ} {p : Stack} (q : Sound n p) where
  through-lands : (x : Sym) → Lands n x → Lands n (through p x)
  unfolding through
  through-lands (before k) f = q.at k
  through-lands (constant v) f = f
  through-lands (jumpdest t) f = f
  through-lands (other pc) f = f

  pub compose-sound : {c : Stack} → Sound n c → Sound n (compose c p)
  compose-sound {c} o = record { at = λ i. rw (read-compose c p i) (through-lands (read c i) (o.at i)) }
