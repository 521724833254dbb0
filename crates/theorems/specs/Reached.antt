-- What document 01 says of a reached set, as a rule: the seeds, and where an edge leads whose place and witness are reached. Assumes nothing.
use Rattle.std.specs.Prelude.{ℕ, ◌≡◌, true, List}
use Rattle.spec.specs.Lists.{mem}
use Rattle.spec.specs.Reach.{Edge}
use Rattle.laws.specs.Lists.{In}

pub data Reached (es : List Edge) (seeds : List ℕ) : ℕ → Type 0 where
  seed : {a : ℕ} → mem a seeds ≡ true → Reached es seeds a
  along : (e : Edge) → In e es → Reached es seeds e.place → Reached es seeds e.witness → Reached es seeds e.to
