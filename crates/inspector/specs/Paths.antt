-- The run of a block of a path: whether it meets an unknown byte. Assumes nothing.
use Rattle.std.specs.Prelude.{ℕ, Bool, ◌&&◌, ◌||◌, not, List, eqb, drop}
use Rattle.spec.specs.Opcodes.{row}
use Rattle.spec.specs.Walk.{walk}
use Rattle.spec.specs.Meaning.{closing}
use Rattle.spec.specs.PathMeaning.{all_known}

-- the run of the block at `start` ends with the instruction op at pc
abbrev pub last_at : ℕ → ℕ → ℕ → Bool
last_at start pc op = closing op || (eqb op 0x5B && not (eqb pc start))

-- its run meets none from a place on
abbrev pub known_at : List ℕ → ℕ → ℕ → Bool
known_at code start at = all_known row start (walk (drop at code) at 0)
