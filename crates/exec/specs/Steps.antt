-- One instruction of a block's run, on the stack in hand. Assumes nothing.
use Rattle.std.specs.Prelude.{◌≡◌, ℕ, zero, suc, ◌+◌, ◌*◌, ◌≤◌, ◌<◌, List, eqb, length, take, drop}
use Rattle.std.proofs.Math.Option.{some}
use Rattle.spec.specs.Lists.{if}
use Rattle.spec.specs.Opcodes.{argument, row}
use Rattle.spec.specs.Walk.{Ins, big}
use Rattle.spec.specs.Stacks.{Sym, other, from_value, Stack, read, Does, pushes_value, pushes_pc, dups, swaps, ands, adds, jumps, jumpis, lands, halts, plain, does, act, Ran, still}
use Rattle.spec.specs.Rooms.{longest}
use Rattle.state.specs.Symbols.{sym_of}
use Rattle.exec.specs.Working.{stack_of, end_of, Held, Free, Moves}
use Rattle.exec.specs.declared.top.Top.{Top}
use Rattle.exec.specs.declared.step.Stepped.{Stepped}
use Rattle.exec.specs.declared.step.Stepped.TheVariants.{On, Ends, Jumps}

-- ---- `after` of document 01 without the rest of the run: the run goes on with a stack, ends with one, or jumps

pub data Next : Type 0 where
  on ends : Stack → Next
  leaps : Stack → Sym → Next

-- s stood before the instruction and t stands after it
abbrev pub turn : ℕ → Ins → Stack → Stack → Does → Next
turn start i s t pushes_value = on t
turn start i s t pushes_pc = on t
turn start i s t (dups n) = on t
turn start i s t (swaps n) = on t
turn start i s t ands = on t
turn start i s t adds = on t
turn start i s t jumps = leaps t (read s 0)
turn start i s t jumpis = leaps t (read s 0)
turn start i s t lands = if (eqb i.pc start) (on t) (ends s)
turn start i s t halts = ends t
turn start i s t plain = on t

-- in a mode
unfoldable pub next : ℕ → List ℕ → ℕ → Ins → Stack → Next
next mode code start i s = turn start i s (act row code i (does mode i.op) s) (does mode i.op)

-- what PUSH0 gives at pc
abbrev pub zero_at : ℕ → List ℕ → ℕ → Sym
zero_at zero code pc = other pc
zero_at (suc mode) code pc = from_value code 0

-- the run, with what is left of it
abbrev pub go_on : (Stack → Ran) → Next → Ran
go_on rest (on s) = rest s
go_on rest (ends s) = still s
go_on rest (leaps s x) = record { stack = s; goes = some x }

-- ---- the same on the stack in hand

abbrev pub next_of : List ℕ → Stepped → Next
next_of w (On t) = on (stack_of w t)
next_of w (Ends t) = ends (stack_of w t)
next_of w (Jumps t x) = leaps (stack_of w t) (sym_of x)

abbrev pub top_of : Stepped → Top
top_of (On t) = t
top_of (Ends t) = t
top_of (Jumps t x) = t

-- t in w became what r holds, in w', which is x
pub record Turns (w : List ℕ) (t : Top) (x : Next) (w' : List ℕ) (r : Stepped) : Type 0 where
  pub is : next_of w' r ≡ x
  pub moves : Moves w t w' (top_of r)

-- the number that the n bytes after pc spell
abbrev pub spelt : List ℕ → ℕ → ℕ → ℕ
spelt code pc n = big 0 (take n (drop (pc + 1) code))

-- there is room for a cell more, and the bytes are there
pub record Pushes (w : List ℕ) (t : Top) (code : List ℕ) (pc n : ℕ) : Type 0 where
  pub free : Free w t
  pub few : n ≤ 4
  pub inside : pc + n < length code

-- A whole instruction stands at pc, and the stack in hand is that of a run which came to pc: each instruction puts a cell at most, save that the first
-- SWAP16 may put seventeen, and takes seventeen words at most. Its part of w has a cell for each byte of code, and seventeen.
pub record Steps (code : List ℕ) (pc op : ℕ) (w : List ℕ) (t : Top) : Type 0 where
  pub whole : pc + suc (argument op) ≤ length code
  pub short : length code ≤ longest
  pub room : 9 * (length code + 17) ≤ end_of t
  pub held : Held w t
  pub few : t.n ≤ 16 + pc
  pub low : t.base ≤ 17 * pc
