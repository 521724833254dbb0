-- The walk along the log, and its counts in their buffer. Assumes nothing.
use Rattle.std.specs.Prelude.{◌≡◌, ℕ, ◌+◌, ◌*◌, ◌%◌, ◌^◌, ◌≤◌, List, length, replicate, Option, Some, None}
use Rattle.spec.specs.Lists.{little}
use Rattle.spec.specs.Entries.{Map}
use Rattle.spec.specs.Reader.{holds, read}
use Rattle.spec.specs.Eights.{as_eights, over}
use Rattle.spec.specs.Follow.{follow, numbers, steps}
use Rattle.lent.specs.Bytes.{num_at, patch}
use Rattle.follow.specs.Blocks.{finals_at}
use Rattle.follow.specs.Finding.{slots_of}
use Rattle.follow.specs.Stepping.{StepsSo}
use Rattle.follow.specs.declared.step.Stand.{Stand}
use Rattle.follow.specs.declared.step.Move.{Move}
use Rattle.follow.specs.declared.step.Move.TheVariants.{Stays, Begins, Takes}

-- a buffer with one more in a count
unfoldable pub bump_at : List ℕ → ℕ → List ℕ
bump_at c slot = patch c (8 * slot) (little 8 ((num_at 8 c (8 * slot) + 1) % 2 ^ 64))

-- what a move adds, and where the follower stands behind it
abbrev pub bumps_of : Option Move → List ℕ → List ℕ
bumps_of None c = c
bumps_of (Some (Stays k)) c = c
bumps_of (Some (Begins k)) c = bump_at c k.slot
bumps_of (Some (Takes edge k)) c = bump_at (bump_at c edge) k.slot

abbrev pub turn_of : Option Move → ℕ → Option Stand
turn_of None q = None
turn_of (Some (Stays k)) q = Some (record { at = k; pc = q })
turn_of (Some (Begins k)) q = Some (record { at = k; pc = q })
turn_of (Some (Takes edge k)) q = Some (record { at = k; pc = q })

pub record Turned (b code : List ℕ) (s : Option Stand) (q : ℕ) (c c' : List ℕ) (r : Option Stand) : Type 0 where
  pub move : Option Move
  pub so : StepsSo b code s q move
  pub turn : r ≡ turn_of move q
  pub counts : c' ≡ bumps_of move c
  pub kept : length c' ≡ length c

-- the counts are all 0, and they fit
pub record Zeroed (b c : List ℕ) : Type 0 where
  pub fits : 8 * slots_of (finals_at b 0) ≤ length c
  pub zeros : c ≡ over (replicate (8 * slots_of (finals_at b 0)) 0) c

pub record Walked (b code log c c' : List ℕ) (r : ℕ) : Type 0 where
  pub place : (m : Map) → read b ≡ holds m → r ≡ (follow m code (steps log)).place
  pub counts : (m : Map) → read b ≡ holds m → c' ≡ over (as_eights (numbers (follow m code (steps log)).counts)) c
