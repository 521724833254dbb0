-- What the functions of rows.rt promise, in terms of the rows of document 01. Assumes nothing.
use Rattle.std.specs.Prelude.{◌≡◌, Bool, true, false, ℕ, suc, ◌≤◌, Option, Some, None}
use Rattle.spec.specs.Opcodes.{argument, row}
use Rattle.evm.specs.declared.rows.Row.{Row}
use Rattle.evm.specs.declared.rows.Words.{Words}

-- r is the row of the byte op; the bounds are for the sums of callers
pub record RowIs (op : ℕ) (r : Row) : Type 0 where
  pub size : r.size ≡ (row op).size
  pub taken : r.taken ≡ (row op).taken
  pub given : r.given ≡ (row op).given
  pub known : r.known ≡ (row op).known
  pub size_least : 1 ≤ r.size
  pub size_most : r.size ≤ 33
  pub taken_most : r.taken ≤ 17
  pub given_most : r.given ≤ 17

-- r is the size of the instruction whose byte is op
pub record SizeIs (op r : ℕ) : Type 0 where
  pub size : r ≡ suc (argument op)
  pub least : 1 ≤ r
  pub most : r ≤ 33

-- r is how many bytes of code after op belong to the instruction
pub record ArgumentIs (op r : ℕ) : Type 0 where
  pub is : r ≡ argument op
  pub most : r ≤ 32

-- the words that are taken and given, and whether the byte is known
abbrev pub taken_in : Option Words → ℕ
taken_in (Some w) = w.taken
taken_in None = 0

abbrev pub given_in : Option Words → ℕ
given_in (Some w) = w.given
given_in None = 0

abbrev pub known_in : Option Words → Bool
known_in (Some w) = true
known_in None = false

-- w says the row of the byte op, but for its size
pub record WordsAre (op : ℕ) (w : Option Words) : Type 0 where
  pub taken : taken_in w ≡ (row op).taken
  pub given : given_in w ≡ (row op).given
  pub known : known_in w ≡ (row op).known
  pub taken_most : taken_in w ≤ 17
  pub given_most : given_in w ≤ 17

-- a known byte that takes t words and gives g
abbrev pub each : ℕ → ℕ → Option Words
each t g = Some (record { taken = t; given = g })
