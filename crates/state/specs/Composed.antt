-- Composing stored states: the contracts of its functions. Assumes nothing.
use Rattle.std.specs.Prelude.{◌≡◌, ℕ, ◌+◌, ◌*◌, ◌^◌, ◌≤◌, ◌<◌, List, map, length}
use Rattle.spec.specs.Stacks.{Sym, Stack, cells, through, compose}
use Rattle.lent.specs.Bytes.{Stored}
use Rattle.state.specs.Cells.{cells_of, syms_at, Wrote, stored, stack_at, State, Lies, depth, reach}

-- the numbers of a symbol over the parent's state fit
pub record Resolves (b : List ℕ) (parent p : ℕ) (x : Sym) : Type 0 where
  pub state : State b parent p
  pub small : depth x + reach (stack_at b parent p) ≤ 2 ^ 64

-- the child's state lies in s before `to`, and from there on there is room for the new one; the parent's lies in w
pub record Composes (s : List ℕ) (child c to : ℕ) (w : List ℕ) (parent p : ℕ) : Type 0 where
  pub child_state : State s child c
  pub parent_state : State w parent p
  pub apart : child + 9 * c ≤ to
  pub room : to + 9 * cells (compose (stack_at s child c) (stack_at w parent p)) ≤ length s
  pub small : reach (stack_at s child c) + reach (stack_at w parent p) ≤ 2 ^ 64

-- the same with the parent in s too, before the new cells or after them
pub record ComposesKept (s : List ℕ) (child c to parent p : ℕ) : Type 0 where
  pub both : Composes s child c to s parent p
  pub clear : parent < to + 9 * cells (compose (stack_at s child c) (stack_at s parent p)) → parent + 9 * p ≤ to

-- s became s': the child's cells over the stack p were stored from `to` on
pub record Mapped (s : List ℕ) (child c to : ℕ) (p : Stack) (s' : List ℕ) : Type 0 where
  pub wrote : Wrote c s to (map (through p) (syms_at s child c)) s'

-- s became s': the n cells of the stack x were stored from `to` on, and nothing else
pub record Composed (s : List ℕ) (to : ℕ) (x : Stack) (s' : List ℕ) (n : ℕ) : Type 0 where
  pub count : n ≡ cells x
  pub stored : Stored (9 * n) s to (cells_of (stored x)) s'
  pub lies : Lies s' to n x
