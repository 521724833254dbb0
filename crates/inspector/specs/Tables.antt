-- The tables in W: numbers of 8 bytes, one an address for its block, 0 where none starts there, and five an address for edges that were found, where 0 says
-- nothing. Assumes nothing.
use Rattle.std.specs.Prelude.{ℕ, ◌+◌, ◌*◌, ◌-◌, ◌≤◌, ◌<◌, ◌≡◌, Bool, true, false, List, length, Option, Some, None}
use Rattle.spec.specs.Lists.{little}
use Rattle.spec.specs.Rooms.{longest, work_need}
use Rattle.lent.specs.Bytes.{num_at, Stored}
use Rattle.inspector.specs.Edges.{edge_from, edge_in, Stands, pair_of}

-- the i-th number, where the rows are filled up to an offset
pub record Slot (b code : List ℕ) (done i v : ℕ) : Type 0 where
  pub block : i < length code → (v ≡ 0 → ⊥) → Stands b i (v - 1)
  pub none : i < length code → v ≡ 0 → (x : ℕ) → edge_from b x i false done ≡ edge_in b x i
  pub edge : length code ≤ i → (x y : ℕ) → x < 65536 → v ≡ pair_of y x → edge_in b x y ≡ true

pub record TablesTo (b code : List ℕ) (done : ℕ) (w : List ℕ) : Type 0 where
  pub short : length code ≤ longest
  pub room : work_need (length code) ≤ length w
  pub slots : (i : ℕ) → i < 6 * length code → Slot b code done i (num_at 8 w (8 * i))

abbrev pub Tables : List ℕ → List ℕ → List ℕ → Type 0
Tables b code w = TablesTo b code (length b) w

pub record Filled (b code w w' : List ℕ) : Type 0 where
  pub tables : Tables b code w'
  pub kept : length w' ≡ length w

-- the row of a block's start put, if the code has the address
pub record Noted (code w : List ℕ) (start : Option ℕ) (at : ℕ) (w' : List ℕ) : Type 0 where
  pub there : {s : ℕ} → start ≡ Some s → s < length code → Stored 8 w (8 * s) (little 8 (at + 1)) w'
  pub past : {s : ℕ} → start ≡ Some s → length code ≤ s → w' ≡ w
  pub none : start ≡ None → w' ≡ w

-- two starts
pub record Between (code : List ℕ) (from to : ℕ) : Type 0 where
  pub inside : from < length code
  pub small : to < 65536

pub record Joined (b code w : List ℕ) (from to : ℕ) (w' : List ℕ) (r : Bool) : Type 0 where
  pub is : r ≡ edge_in b to from
  pub filled : Filled b code w w'
