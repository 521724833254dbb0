-- Symbols and stacks in cells of nine bytes. Assumes nothing.
use Rattle.std.specs.Prelude.{◌≡◌, ℕ, zero, suc, ◌+◌, ◌-◌, ◌*◌, ◌≤◌, max, List, [], ◌∷◌, ◌++◌, eqb, length, take, drop}
use Rattle.spec.specs.Lists.{if, little}
use Rattle.spec.specs.Stacks.{Sym, before, constant, jumpdest, other, Stack}
use Rattle.lent.specs.Bytes.{num_at, Stored}

-- ---- a symbol: a tag, and the number in eight bytes

abbrev pub tag : Sym → ℕ
tag (before n) = 0
tag (constant v) = 1
tag (jumpdest v) = 2
tag (other pc) = 3

abbrev pub value : Sym → ℕ
value (before n) = n
value (constant v) = v
value (jumpdest v) = v
value (other pc) = pc

unfoldable pub cell : Sym → List ℕ
cell x = tag x ∷ little 8 (value x)

unfoldable pub cells_of : List Sym → List ℕ
cells_of [] = []
cells_of (x ∷ xs) = cell x ++ cells_of xs

-- and back: the symbol of a tag and a number, and the symbols that stand in b from `at` on
unfoldable pub symbol : ℕ → ℕ → Sym
symbol t n = if (eqb t 0) (before n) (if (eqb t 1) (constant n) (if (eqb t 2) (jumpdest n) (other n)))

unfoldable pub sym_at : List ℕ → ℕ → Sym
sym_at b at = symbol (num_at 1 b at) (num_at 8 b (at + 1))

unfoldable pub syms_at : List ℕ → ℕ → ℕ → List Sym
syms_at b at zero = []
syms_at b at (suc n) = sym_at b at ∷ syms_at b (at + 9) n

-- b became b': the symbol x was stored at `at`, and is read there
pub record Put (b : List ℕ) (at : ℕ) (x : Sym) (b' : List ℕ) : Type 0 where
  pub stored : Stored 9 b at (cell x) b'
  pub reads : sym_at b' at ≡ x

-- b became b': n cells with the symbols xs were stored from `at` on, and are read there
pub record Wrote (n : ℕ) (b : List ℕ) (at : ℕ) (xs : List Sym) (b' : List ℕ) : Type 0 where
  pub stored : Stored (9 * n) b at (cells_of xs) b'
  pub reads : syms_at b' at n ≡ xs

-- n cells stand in b from `at` on, each as a symbol is stored
pub record Cells (b : List ℕ) (at n : ℕ) : Type 0 where
  pub fits : at + 9 * n ≤ length b
  pub are : take (9 * n) (drop at b) ≡ cells_of (syms_at b at n)

-- ---- a stored state: the symbols above, top first, and then Before base at the bottom

abbrev pub stored : Stack → List Sym
stored s = s.above ++ before s.base ∷ []

-- Before base, Before (base + 1) and so on
unfoldable pub befores : ℕ → ℕ → List Sym
befores base zero = []
befores base (suc d) = before base ∷ befores (base + 1) d

-- the stack whose n cells stand in b from `at` on
unfoldable pub stack_at : List ℕ → ℕ → ℕ → Stack
stack_at b at n = record { above = syms_at b at (n - 1); base = value (sym_at b (at + 9 * (n - 1))) }

-- a state stands there: its bytes are those that the stack is stored as, so that the bottom is a Before
pub record State (b : List ℕ) (at n : ℕ) : Type 0 where
  pub some : 1 ≤ n
  pub fits : at + 9 * n ≤ length b
  pub cells : take (9 * n) (drop at b) ≡ cells_of (stored (stack_at b at n))

-- the stack s lies there, in n cells
pub record Lies (b : List ℕ) (at n : ℕ) (s : Stack) : Type 0 where
  pub state : State b at n
  pub is : stack_at b at n ≡ s

-- ---- how deep into the entry stack a stored stack reaches: past the deepest Before that it holds

abbrev pub depth : Sym → ℕ
depth (before n) = suc n
depth (constant v) = 0
depth (jumpdest v) = 0
depth (other pc) = 0

unfoldable pub deepest : List Sym → ℕ
deepest [] = 0
deepest (x ∷ xs) = max (depth x) (deepest xs)

unfoldable pub reach : Stack → ℕ
reach s = deepest (stored s)
