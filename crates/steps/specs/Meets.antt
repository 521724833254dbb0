-- What was met in a turn. Assumes nothing.
use Rattle.std.specs.Prelude.{◌≡◌, Bool, true, false, ℕ, ◌≤◌, List, Option, Some, None, Result, Ok, Err}
use Rattle.spec.specs.Lists.{some?}
use Rattle.refusal.specs.declared.Shortage.{Shortage}
use Rattle.refusal.specs.Numbers.{short_number}
use Rattle.tables.specs.Rows.{met_of, seen_met, equal_met}
use Rattle.tables.specs.Mets.{Remembers, Fresh, Memorized}
use Rattle.tables.specs.declared.Counts.{Counts}
use Rattle.tables.specs.Replies.{Reply}
use Rattle.tables.specs.declared.row.Seen.{Seen}
use Rattle.steps.specs.declared.plan.Plan.{Plan}

pub record Meets (t s : List ℕ) (k : Plan) (c : Counts) (x : Seen) : Type 0 where
  pub remembers : Remembers k.shelves k.rooms t s c
  pub fresh : Fresh s c x
  pub some : 1 ≤ k.rooms.t → 1 ≤ k.shelves

-- 0 or the number of T where it is short, whether it was met before, and the counts
pub record Meeting : Type 0 where
  pub code : ℕ
  pub met : Bool
  pub counts : Counts

-- where the counts before were c, which stay unless it is remembered
abbrev pub meeting_of : Counts → Result (Option Counts) Shortage → Meeting
meeting_of c (Ok None) = record { code = 0; met = true; counts = c }
meeting_of c (Ok (Some d)) = record { code = 0; met = false; counts = d }
meeting_of c (Err x) = record { code = short_number x; met = false; counts = c }

abbrev pub answer_of : Meeting → Reply
answer_of r = record { code = r.code; counts = r.counts }

-- met before, with nothing changed; or new, and remembered where T has room
pub record Met (t s : List ℕ) (k : Plan) (c : Counts) (x : Seen) (t' : List ℕ) (r : Meeting) : Type 0 where
  pub met_is : r.met ≡ some? (equal_met (seen_met s x)) (met_of t s c.rows)
  pub again : r.met ≡ true → (r.code ≡ 0) × (t' ≡ t) × (r.counts ≡ c)
  pub new : r.met ≡ false → Memorized k.shelves k.rooms t s c x t' (answer_of r)
