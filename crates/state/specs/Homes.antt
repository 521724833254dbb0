-- Where a parent's state lies while it is composed. Assumes nothing.
use Rattle.std.specs.Prelude.{ℕ, ◌*◌, ◌≤◌, List}
use Rattle.spec.specs.Stacks.{Sym}
use Rattle.lent.specs.Bytes.{Stored}
use Rattle.state.specs.Cells.{stack_at, Lies}
use Rattle.state.specs.Composed.{Composes}
use Rattle.state.specs.declared.compose.Home.{Home}
use Rattle.state.specs.declared.compose.Home.TheVariants.{Apart, Here}

-- the bytes that it lies in: its own, or those of the child
abbrev pub bytes_in : Home → List ℕ → List ℕ
bytes_in (Apart w) s = w.now
bytes_in Here s = s

-- the child's state lies in s before `to`, from there on there is room for the new one, and the parent's stays as it is while the child's cells are written
pub record ComposesIn (h : Home) (s : List ℕ) (child c to parent p : ℕ) : Type 0 where
  pub both : Composes s child c to (bytes_in h s) parent p
  pub stays : (n : ℕ) (xs s' : List ℕ) → Stored (9 * n) s to xs s' → n ≤ c → Lies (bytes_in h s') parent p (stack_at (bytes_in h s) parent p)
