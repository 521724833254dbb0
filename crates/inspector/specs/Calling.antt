-- The inspector's call: its answer, and every lent byte. Assumes nothing.
use Rattle.std.specs.Prelude.{ℕ, ◌≡◌, ◌≢◌, List, ◌++◌, eqb, leb, ltb, length, take, drop, replicate, Result, Ok, Err}
use Rattle.spec.specs.Lists.{if}
use Rattle.spec.specs.Opcodes.{in_mode}
use Rattle.spec.specs.Rooms.{longest, work_need}
use Rattle.spec.specs.Reader.{read}
use Rattle.spec.specs.Inspector.{Inspection, refused, bad_entry, not_right, accepted, wrong_from, inspect_from, inspect, number_of, value_of, place_after, rows, rows_after, work_after, first_of}
use Rattle.inspector.specs.Entries.{wrong_since}
use Rattle.inspector.specs.Listing.{first_in}
use Rattle.exec.specs.Modes.{mode_of}
use Rattle.exec.specs.declared.mode.Mode.{Mode}
use Rattle.refusal.specs.Numbers as refusal
use Rattle.refusal.specs.declared.Refusal.{Refusal}
use Rattle.refusal.specs.declared.Refusal.TheVariants as case
use Rattle.inspector.specs.declared.entries.Wrong.{Wrong}

-- "1, 13 and 3 as before", by the code's length, the mode and W's length
abbrev pub refused_by : ℕ → ℕ → ℕ → ℕ
refused_by n mode w = if (ltb longest n) 1 (if (ltb 1 mode) 13 (if (ltb w (work_need n)) 3 0))

-- the case of one of these numbers
abbrev pub refusal_of : ℕ → Refusal
refusal_of n = if (eqb n 1) case.Code (if (eqb n 13) case.Mode case.Work)

-- the mode of the number, where none of them applies; or the first that does
abbrev pub early_in : ℕ → ℕ → ℕ → Result Mode Refusal → Type 0
early_in n mode w (Ok m) = (refused_by n mode w ≡ 0) × (mode_of m ≡ mode)
early_in n mode w (Err e) = (refused_by n mode w ≢ 0) × (e ≡ refusal_of (refused_by n mode w))

pub record Found (mode : ℕ) (map code : List ℕ) (lo : ℕ) (w rs w' rs' : List ℕ) (r : Result Unit Wrong) : Type 0 where
  pub is : first_of (wrong_since mode map code lo 0 0) ≡ first_in r
  pub are : rs' ≡ rows (wrong_since mode map code lo 0 0) rs
  pub wiped : w' ≡ replicate (length w) 0

-- the case of an outcome
abbrev pub result_of : Inspection → Result Unit Refusal
result_of (refused n) = Err (refusal_of n)
result_of (bad_entry at) = Err (case.Entry at)
result_of (not_right at place) = Err (case.Path at)
result_of accepted = Ok tt

-- number and value of an answer: 0 where there is no refusal
abbrev pub number_in : Result Unit Refusal → ℕ
number_in (Ok u) = 0
number_in (Err e) = refusal.number_of e

abbrev pub value_in : Result Unit Refusal → ℕ
value_in (Ok u) = 0
value_in (Err e) = refusal.value_of e

-- an answer is an outcome's case, and has its number and value
pub record IsOutcome (i : Inspection) (r : Result Unit Refusal) : Type 0 where
  pub is : r ≡ result_of i
  pub number : number_in r ≡ number_of i
  pub value : value_in r ≡ value_of i

pub record InspectedFrom (mode : ℕ) (code map : List ℕ) (from : ℕ) (w rs w' rs' : List ℕ) (r : Result Unit Refusal) : Type 0 where
  pub result : IsOutcome (inspect_from (in_mode mode) code map from (length w)) r
  pub w_is : w' ≡ work_after (inspect_from (in_mode mode) code map from (length w)) w
  pub rows_are : rs' ≡ rows_after (inspect_from (in_mode mode) code map from (length w)) (wrong_from (in_mode mode) code map from (read map)) rs

-- the place of a row, where it has 8 bytes
pub record Tells (place row place' : List ℕ) : Type 0 where
  pub is : place' ≡ if (leb 8 (length place)) (take 8 (drop 8 row) ++ drop 8 place) place

pub record InspectedAs (mode : ℕ) (code map w place w' place' : List ℕ) (r : Result Unit Refusal) : Type 0 where
  pub result : IsOutcome (inspect (in_mode mode) code map (length w)) r
  pub w_is : w' ≡ work_after (inspect (in_mode mode) code map (length w)) w
  pub place_is : place' ≡ place_after (inspect (in_mode mode) code map (length w)) place
