-- What was answered in one record, as the laws of recording and of remembering have it: the number of a refusal, or 0, and the counts. Assumes nothing.
use Rattle.std.specs.Prelude.{ℕ, Result, Ok, Err}
use Rattle.refusal.specs.Numbers.{short_number}
use Rattle.refusal.specs.declared.Shortage.{Shortage}
use Rattle.tables.specs.declared.Counts.{Counts}

pub record Reply : Type 0 where
  pub code : ℕ
  pub counts : Counts

-- 0, or the number of the room that is short
abbrev pub code_of : {A : Type 0} → Result A Shortage → ℕ
code_of (Ok _) = 0
code_of (Err x) = short_number x

-- where the counts before were c, which a refusal leaves
abbrev pub reply_of : Counts → Result Counts Shortage → Reply
reply_of c (Ok d) = record { code = 0; counts = d }
reply_of c (Err x) = record { code = short_number x; counts = c }
