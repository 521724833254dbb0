-- A block's own run: the contracts of its functions. Assumes nothing.
use Rattle.std.specs.Prelude as std
use Rattle.std.specs.Prelude.{Some, None, ◌≡◌, ℕ, ◌+◌, ◌-◌, ◌*◌, ◌≤◌, List, length, take, drop}
use Rattle.std.proofs.Math.Option.{Option, none, some}
use Rattle.spec.specs.Opcodes.{in_mode}
use Rattle.spec.specs.Walk.{walk}
use Rattle.spec.specs.Stacks.{Sym, before, entry, cells, Ran, runs, own}
use Rattle.spec.specs.Rooms.{longest}
use Rattle.state.specs.Symbols.{sym_of}
use Rattle.state.specs.Cells.{sym_at, Cells, depth, reach, Lies}
use Rattle.exec.specs.Bounds.{Bounded}
use Rattle.exec.specs.Working.{stack_of, end_of, Held}
use Rattle.state.specs.declared.sym.StackSym.{StackSym}
use Rattle.exec.specs.declared.run.End.{End}
use Rattle.exec.specs.declared.run.Own.{Own}

abbrev pub goes_of : std.Option StackSym → Option Sym
goes_of (Some x) = some (sym_of x)
goes_of None = none

-- how deep into the entry stack a jump's symbol reaches
abbrev pub far : Option Sym → ℕ
far none = 0
far (some x) = depth x

-- the length of the part of w for the run of a block: no block puts more cells
abbrev pub runs_room : ℕ → ℕ
runs_room n = 9 * (n + 17)

abbrev pub room_of : List ℕ → ℕ
room_of code = runs_room (length code)

-- the part of w is there; a block may start anywhere, inside an argument too
pub record Runs (code w : List ℕ) (end : ℕ) : Type 0 where
  pub short : length code ≤ longest
  pub inside : end ≤ length w
  pub room : room_of code ≤ end

-- w became w', in its part alone
pub record Inside (code w : List ℕ) (end : ℕ) (w' : List ℕ) : Type 0 where
  pub front : take (end - room_of code) w' ≡ take (end - room_of code) w
  pub back : drop end w' ≡ drop end w
  pub kept : length w' ≡ length w

abbrev pub ran_of : List ℕ → End → Ran
ran_of w r = record { stack = stack_of w r.top; goes = goes_of r.goes }

pub record ToEnd (mode : ℕ) (code : List ℕ) (start : ℕ) (w : List ℕ) (end : ℕ) (w' : List ℕ) (r : End) : Type 0 where
  pub is : ran_of w' r ≡ runs (in_mode mode) code start (walk (drop start code) start 0) entry
  pub bounded : Bounded (length code) (stack_of w' r.top)
  pub near : far (goes_of r.goes) ≤ 17 * length code + 16
  pub held : Held w' r.top
  pub ends : end_of r.top ≡ end
  pub inside : Inside code w end w'

-- the cells of a stack and of Before base below it
pub record Trims (w : List ℕ) (at n base : ℕ) : Type 0 where
  pub cells : Cells w at (n + 1)
  pub bottom : sym_at w (at + 9 * n) ≡ before base

-- The state is the block's own, walked afresh from its start. It and the jump's symbol reach at most 16 words deep and 17 a byte of code; its cells begin where those of the state before
-- trimming do, which end where the part ends.
pub record Owned (mode : ℕ) (code : List ℕ) (start : ℕ) (w : List ℕ) (end : ℕ) (w' : List ℕ) (r : Own) : Type 0 where
  pub lies : Lies w' r.at r.n (own (in_mode mode) code start).stack
  pub goes : goes_of r.goes ≡ (own (in_mode mode) code start).goes
  pub reach : reach (own (in_mode mode) code start).stack ≤ 17 * length code + 16
  pub near : far (goes_of r.goes) ≤ 17 * length code + 16
  pub place : r.at + 9 * cells (runs (in_mode mode) code start (walk (drop start code) start 0) entry).stack ≡ end
  pub low : end - room_of code ≤ r.at
  pub high : r.at + 9 * r.n ≤ end
  pub inside : Inside code w end w'
