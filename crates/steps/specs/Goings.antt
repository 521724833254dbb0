-- How a search goes on, or ends by a shortage: what the laws of its parts speak of. Assumes nothing.
use Rattle.std.specs.Prelude.{ℕ, Result}
use Rattle.refusal.specs.declared.Shortage.{Shortage}
use Rattle.tables.specs.Replies.{code_of}
use Rattle.tables.specs.declared.Counts.{Counts}
use Rattle.steps.specs.declared.Run.{Run}

-- 0 or the number of a room that is short, the energy used, and what is in use
pub record Gone : Type 0 where
  pub code : ℕ
  pub energy : ℕ
  pub counts : Counts

-- where the search stands by `run` when a call answers so
abbrev pub gone : {A : Type 0} → Run → Result A Shortage → Gone
gone run answer = record { code = code_of answer; energy = run.energy; counts = run.counts }

-- and while no room was short
abbrev pub under_way : Run → Gone
under_way run = record { code = 0; energy = run.energy; counts = run.counts }
