-- What is fixed in a search. Assumes nothing.
use Rattle.std.specs.Prelude.{ℕ, ◌≤◌, List}
use Rattle.exec.specs.Owns.{Runs}
use Rattle.steps.specs.declared.plan.Plan.{Plan}

-- the number of the plan's mode
abbrev pub mode_in : Plan → ℕ
mode_in k = k.mode

-- what the run of a block asks: the part for runs, and a number that is a mode's
pub record RunsIn (code w : List ℕ) (k : Plan) : Type 0 where
  pub runs : Runs code w k.end
  pub moded : k.mode ≤ 1
