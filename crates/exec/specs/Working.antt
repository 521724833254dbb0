-- The stack in hand while a block is run, in a lent buffer. Assumes nothing.
use Rattle.std.specs.Prelude.{◌≡◌, ℕ, ◌+◌, ◌-◌, ◌*◌, ◌^◌, ◌≤◌, ◌<◌, min, List, ◌++◌, length, take, drop}
use Rattle.spec.specs.Opcodes.{row}
use Rattle.spec.specs.Stacks.{Stack, known_value, read, push, pops, anded, summed, trade}
use Rattle.state.specs.Cells.{syms_at, befores, Cells}
use Rattle.exec.specs.declared.top.Top.{Top}

unfoldable pub stack_of : List ℕ → Top → Stack
stack_of w t = record { above = syms_at w t.at t.n; base = t.base }

-- the end of its part of the buffer: past the cells and the nine bytes that are left free
abbrev pub end_of : Top → ℕ
end_of t = t.at + 9 * t.n + 9

-- the stack without its k upper words
abbrev pub popped : ℕ → Top → Top
popped k t = record { at = t.at + 9 * min k t.n; n = t.n - k; base = t.base + (k - t.n) }

-- the stack after AND, after ADD, and after the trade of an instruction that stands at pc
abbrev pub after_and : ℕ → Stack → Stack
after_and pc s = push (anded pc (read s 0) (read s 1)) (pops 2 s)

abbrev pub after_add : List ℕ → ℕ → Stack → Stack
after_add code pc s = push (summed code pc (known_value (read s 0)) (known_value (read s 1))) (pops 2 s)

abbrev pub after_trade : ℕ → ℕ → Stack → Stack
after_trade op pc s = trade row (record { pc = pc; op = op; arg = 0 }) s

-- the same stack with m symbols above at least: what the numbering gives is spelled out
unfoldable pub deepen : ℕ → Stack → Stack
deepen m s = record { above = s.above ++ befores s.base (m - length s.above); base = s.base + (m - length s.above) }

-- the stack stands in w; there is room for a cell more, and for the numbers of the next depths
pub record Held (w : List ℕ) (t : Top) : Type 0 where
  pub inside : end_of t ≤ length w
  pub cells : Cells w t.at t.n

pub record Free (w : List ℕ) (t : Top) : Type 0 where
  pub held : Held w t
  pub free : 9 ≤ t.at

pub record Ready (w : List ℕ) (t : Top) : Type 0 where
  pub free : Free w t
  pub small : t.base + 32 < 2 ^ 64

-- and its k upper words are within reach
pub record Near (w : List ℕ) (t : Top) (k : ℕ) : Type 0 where
  pub ready : Ready w t
  pub near : k < 32

-- the number of the depth k fits; so does the base without k words
pub record Reads (w : List ℕ) (t : Top) (k : ℕ) : Type 0 where
  pub held : Held w t
  pub small : t.base + k < 2 ^ 64

pub record Pops (t : Top) (k : ℕ) : Type 0 where
  pub inside : end_of t < 2 ^ 64
  pub small : t.base + k < 2 ^ 64

-- an instruction that gives one word at most
pub record Trades (w : List ℕ) (t : Top) (op : ℕ) : Type 0 where
  pub ready : Ready w t
  pub one : (row op).given ≤ 1

-- d cells fit from `at` on, and so do their numbers; m cells of the stack do
pub record Spells (w : List ℕ) (at base d : ℕ) : Type 0 where
  pub fits : at + 9 * d ≤ length w
  pub small : base + d < 2 ^ 64

pub record Deepens (w : List ℕ) (t : Top) (m : ℕ) : Type 0 where
  pub held : Held w t
  pub fits : 9 * m + 9 ≤ end_of t
  pub small : t.base + m < 2 ^ 64

-- t in w became t' in w': nothing before its cells changed, and nothing after its part
pub record Moves (w : List ℕ) (t : Top) (w' : List ℕ) (t' : Top) : Type 0 where
  pub held : Held w' t'
  pub ends : end_of t' ≡ end_of t
  pub front : take t'.at w' ≡ take t'.at w
  pub back : drop (end_of t) w' ≡ drop (end_of t) w

pub record Becomes (w : List ℕ) (t : Top) (s : Stack) (w' : List ℕ) (t' : Top) : Type 0 where
  pub is : stack_of w' t' ≡ s
  pub moves : Moves w t w' t'
