-- The follower's call: its answer, and every lent byte. Assumes nothing.
use Rattle.std.specs.Prelude.{◌≡◌, ℕ, List, length, replicate, Result, Ok, Err}
use Rattle.spec.specs.Entries.{Map}
use Rattle.spec.specs.Reader.{holds, read}
use Rattle.spec.specs.Eights.{as_eights, over}
use Rattle.spec.specs.Follow.{follow, numbers, steps, FollowOutcome, follows, bad_map, uneven_log, no_count_room, follow_call, counts_after, work_after}
use Rattle.refusal.specs.declared.Refusal.{Refusal}
use Rattle.refusal.specs.declared.Refusal.TheVariants.{Entry, Log, Counts}

pub record Answered (b code log work counts work' counts' : List ℕ) (r : ℕ) : Type 0 where
  pub place : (m : Map) → read b ≡ holds m → r ≡ (follow m code (steps log)).place
  pub counts_are : (m : Map) → read b ≡ holds m → counts' ≡ over (as_eights (numbers (follow m code (steps log)).counts)) counts
  pub work_is : work' ≡ replicate (length work) 0

-- the place, or the refusal, whose numbers are 12, 14 and 15
abbrev pub result_of : FollowOutcome → Result ℕ Refusal
result_of (follows f) = Ok f.place
result_of (bad_map at) = Err (Entry at)
result_of uneven_log = Err Log
result_of no_count_room = Err Counts

pub record FollowedAs (b code log work counts work' counts' : List ℕ) (r : Result ℕ Refusal) : Type 0 where
  pub result : r ≡ result_of (follow_call b code log counts)
  pub counts_are : counts' ≡ counts_after counts (follow_call b code log counts)
  pub work_is : work' ≡ work_after work (follow_call b code log counts)
