-- What holds of every stack and every record in a search over a code of n bytes. Assumes nothing.
use Rattle.std.specs.Prelude.{◌≡◌, ℕ, ◌*◌, ◌^◌, ◌≤◌, List, length}
use Rattle.spec.specs.Stacks.{jumpdest, Stack}
use Rattle.spec.specs.Search.{found, Rec}
use Rattle.laws.specs.Lists.{In}
use Rattle.state.specs.Cells.{reach}
use Rattle.steps.specs.Paths.{Inside}

-- so many words deep a block reaches at the most: 17 for each byte of a code, of which it has 49,152 at the most, and 17
abbrev pub DEEPEST : ℕ
DEEPEST = 2 ^ 20

-- the state of a path of m blocks reaches no deeper than that for each, and its Jumpdests lie in the code
pub record SoundStack (n m : ℕ) (s : Stack) : Type 0 where
  pub deep : reach s ≤ m * DEEPEST
  pub lands : (t : ℕ) → In (jumpdest t) s.above → t ≤ n

pub record SoundRec (n : ℕ) (r : Rec) : Type 0 where
  pub long : 2 ≤ length r.path
  pub inside : Inside n r.path
  pub state : (u : ℕ) (s : Stack) → r.to ≡ found u s → SoundStack n (length r.path) s

pub record SoundRecs (n : ℕ) (recs : List Rec) : Type 0 where
  pub each : (r : Rec) → In r recs → SoundRec n r
