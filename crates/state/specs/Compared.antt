-- Stored states that are compared. Assumes nothing.
use Rattle.std.specs.Prelude.{ℕ, List}
use Rattle.state.specs.Cells.{Cells, State}

pub record TwoCells (b : List ℕ) (i j : ℕ) : Type 0 where
  pub first : Cells b i 1
  pub second : Cells b j 1

pub record TwoStates (b : List ℕ) (i j n : ℕ) : Type 0 where
  pub first : State b i n
  pub second : State b j n
