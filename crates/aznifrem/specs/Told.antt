-- An answer as one number. Assumes nothing.
use Rattle.std.specs.Prelude.{ℕ, Result, Ok, Err}
use Rattle.spec.specs.Reader.{told}
use Rattle.refusal.specs.Numbers.{number_of, value_of}
use Rattle.refusal.specs.declared.Refusal.{Refusal}
use Rattle.refusal.specs.declared.Refusal.TheVariants.{Entry}
use Rattle.reader.specs.declared.scan.BadEntry.{BadEntry}

-- a reading as an answer
abbrev pub refusing : Result Unit BadEntry → Result Unit Refusal
refusing (Ok u) = Ok u
refusing (Err e) = Err (Entry e.offset)

-- 0, or the refusal's number and what is told beside it
abbrev pub told_of : Result Unit Refusal → ℕ
told_of (Ok u) = 0
told_of (Err e) = told (number_of e) (value_of e)

-- the same, with a place beside 0
abbrev pub told_place : Result ℕ Refusal → ℕ
told_place (Ok place) = told 0 place
told_place (Err e) = told (number_of e) (value_of e)
