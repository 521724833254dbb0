-- Stored states that are read. Assumes nothing.
use Rattle.std.specs.Prelude.{ℕ, ◌+◌, ◌^◌, ◌≤◌, List}
use Rattle.state.specs.Cells.{stack_at, State, reach}

-- a state stands there, and the number of every Before down to the position fits
pub record Readable (b : List ℕ) (at n position : ℕ) : Type 0 where
  pub state : State b at n
  pub small : reach (stack_at b at n) + position ≤ 2 ^ 64
