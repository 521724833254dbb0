-- The symbol of a jump, looked up along a path. Assumes nothing.
use Rattle.std.specs.Prelude.{ℕ, ◌+◌, ◌*◌, ◌^◌, ◌≤◌, ◌≡◌, List, length}
use Rattle.std.proofs.Math.Option.{Option, none, some}
use Rattle.spec.specs.Opcodes.{in_mode}
use Rattle.spec.specs.Stacks.{Sym, other, through, own}
use Rattle.spec.specs.Rooms.{longest, work_need}
use Rattle.state.specs.Symbols.{sym_of}
use Rattle.state.specs.Cells.{depth}
use Rattle.exec.specs.Owns.{Inside}
use Rattle.state.specs.declared.sym.StackSym.{StackSym}

-- W has its room
pub record Lent (code w : List ℕ) : Type 0 where
  pub short : length code ≤ longest
  pub room : work_need (length code) ≤ length w

-- how deep a block of the longest code reaches
abbrev pub step : ℕ
step = 17 * longest + 16

-- without a jump, one that is no Jumpdest and stays so
abbrev pub taken_of : Option Sym → Sym
taken_of none = other 0
taken_of (some x) = x

pub record Taken (mode : ℕ) (code w : List ℕ) (start : ℕ) (w' : List ℕ) (r : StackSym) : Type 0 where
  pub is : sym_of r ≡ taken_of (own (in_mode mode) code start).goes
  pub near : depth (sym_of r) ≤ step
  pub inside : Inside code w (work_need (length code)) w'

-- its depth fits
pub record Looks (x : Sym) : Type 0 where
  pub deep : depth x ≤ 2 ^ 60

pub record Looked (mode : ℕ) (code w : List ℕ) (start : ℕ) (x : StackSym) (w' : List ℕ) (r : StackSym) : Type 0 where
  pub is : sym_of r ≡ through (own (in_mode mode) code start).stack (sym_of x)
  pub near : depth (sym_of r) ≤ depth (sym_of x) + step
  pub inside : Inside code w (work_need (length code)) w'
