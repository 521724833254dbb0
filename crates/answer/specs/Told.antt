-- What a call tells, as numbers: the documents' number of a refusal, or 0 and what was counted. Assumes nothing.
use Rattle.std.specs.Prelude.{Result, Ok, Err, ℕ}
use Rattle.refusal.specs.Numbers as refusal
use Rattle.refusal.specs.Numbers.{short_number}
use Rattle.refusal.specs.declared.Refusal.{Refusal}
use Rattle.refusal.specs.declared.Shortage.{Shortage}
use Rattle.answer.specs.declared.find.Finding.{Finding}
use Rattle.answer.specs.declared.both.Written.{Written}

-- the number of a refusal and 0, or 0 and the bytes written
pub record Answer : Type 0 where
  pub number : ℕ
  pub written : ℕ

abbrev pub told : Result ℕ Refusal → Answer
told (Ok written) = record { number = 0; written = written }
told (Err e) = record { number = refusal.number_of e; written = 0 }

-- the same with the bytes of text
pub record Both : Type 0 where
  pub number : ℕ
  pub written : ℕ
  pub texted : ℕ

abbrev pub told_both : Result Written Refusal → Both
told_both (Ok both) = record { number = 0; written = both.entries; texted = both.text }
told_both (Err e) = record { number = refusal.number_of e; written = 0; texted = 0 }

-- what the search and pruning told
pub record Found : Type 0 where
  pub code : ℕ
  pub records : ℕ
  pub energy : ℕ
  pub flags : ℕ
  pub blocks : ℕ

abbrev pub found_of : Result Finding Shortage → Found
found_of (Ok f) = record { code = 0; records = f.records; energy = f.energy; flags = f.flags; blocks = f.blocks }
found_of (Err short) = record { code = short_number short; records = 0; energy = 0; flags = 0; blocks = 0 }
