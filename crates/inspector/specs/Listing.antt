-- All path entries that are not right, as rows. Assumes nothing.
use Rattle.std.specs.Prelude.{ℕ, ◌+◌, ◌^◌, ◌≤◌, ◌<◌, ◌≡◌, Bool, true, false, List, ◌∷◌, ◌++◌, length, take, drop, Result, Ok, Err}
use Rattle.spec.specs.Inspector.{Inspection, not_right, accepted, WrongPath, first_of, rows}
use Rattle.inspector.specs.Tables.{Filled}
use Rattle.inspector.specs.Entries.{wrong_since}
use Rattle.inspector.specs.declared.entries.Wrong.{Wrong}

-- rows from a place on
abbrev pub rows_at : List ℕ → ℕ → List WrongPath → List ℕ
rows_at b at xs = take at b ++ rows xs (drop at b)

-- a row put: with those behind it, the rows are the same, or are what they are with any behind it
pub record Rowed (b : List ℕ) (at offset place : ℕ) (b' : List ℕ) (more : Bool) : Type 0 where
  pub kept : length b' ≡ length b
  pub on : more ≡ true → (xs : List WrongPath) → rows_at b' (at + 16) xs ≡ rows_at b at (record { offset = offset; place = place } ∷ xs)
  pub room : more ≡ true → at + 32 ≤ length b
  pub fits : more ≡ true → at + 16 < 2 ^ 64
  pub full : more ≡ false → (xs : List WrongPath) → b' ≡ rows_at b at (record { offset = offset; place = place } ∷ xs)

pub record Rest (mode : ℕ) (map code : List ℕ) (lo start owner : ℕ) (w rs w' rs' : List ℕ) : Type 0 where
  pub are : rs' ≡ rows_at rs 16 (wrong_since mode map code lo owner start)
  pub kept : length rs' ≡ length rs
  pub filled : Filled map code w w'

abbrev pub first_in : Result Unit Wrong → Inspection
first_in (Ok u) = accepted
first_in (Err x) = not_right x.offset x.place

pub record Listed (mode : ℕ) (map code : List ℕ) (lo : ℕ) (w rs w' rs' : List ℕ) (r : Result Unit Wrong) : Type 0 where
  pub is : first_of (wrong_since mode map code lo 0 0) ≡ first_in r
  pub are : rs' ≡ rows (wrong_since mode map code lo 0 0) rs
  pub filled : Filled map code w w'
