-- A walker, by the code that it holds and its place. Assumes nothing.
use Rattle.std.specs.Prelude.{◌≡◌, ℕ, List, Option}
use Rattle.std.specs.Borrow.{Bor}
use Rattle.evm.specs.Step.{next_at, step_at}
use Rattle.evm.specs.declared.walk.Instruction.{Instruction}
use Rattle.evm.specs.declared.walker.Walker.{Walker}

abbrev pub walker_at : Bor (List ℕ) → ℕ → Walker
walker_at code at = record { code = code; at = at }

-- a call of next on the walker w gave r, and left v: what stands at the place, and the walker at the next one
pub record Walks (w : Walker) (r : Option Instruction) (v : Walker) : Type 0 where
  pub gives : r ≡ step_at w.code.now w.at
  pub goes : v ≡ walker_at w.code (next_at w.code.now w.at)
