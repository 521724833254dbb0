-- How many cells a block's run needs, and how deep into the entry stack it reaches. Assumes nothing.
use Rattle.std.specs.Prelude.{ℕ, ◌+◌, ◌*◌, ◌≤◌, length}
use Rattle.spec.specs.Stacks.{Stack}
use Rattle.state.specs.Cells.{deepest}

-- A stack after k instructions: each puts a cell at most, save that the first SWAP16 may put seventeen; each takes seventeen words at most; and no Before
-- lies further below the cells than DUP16 looks.
pub record Bounded (k : ℕ) (s : Stack) : Type 0 where
  pub few : length s.above ≤ 16 + k
  pub low : s.base ≤ 17 * k
  pub near : deepest s.above ≤ s.base + 16
