-- The blocks' counts in their order, the block that starts at an address, and the index of such. Assumes nothing.
use Rattle.std.specs.Prelude.{◌≡◌, ℕ, suc, ◌+◌, ◌-◌, ◌*◌, ◌^◌, ◌<◌, ◌≤◌, List, ◌∷◌, ◌++◌, length, ◌≢◌, Option, Some, None, Result, Ok, Err}
use Rattle.std.proofs.Math.Option.{none, some}
use Rattle.spec.specs.Lists.{total}
use Rattle.spec.specs.Ending.{Final}
use Rattle.spec.specs.Entries.{Map}
use Rattle.spec.specs.Reader.{holds, read}
use Rattle.spec.specs.Follow.{outgoing, starting}
use Rattle.lent.specs.Bytes.{num_at}
use Rattle.reader.specs.Walks.{Walking}
use Rattle.follow.specs.Blocks.{finals_at, BlockIs}
use Rattle.follow.specs.Places.{PlaceOf}
use Rattle.follow.specs.declared.block.Block.{Block}
use Rattle.follow.specs.declared.find.Counted.{Counted}
use Rattle.follow.specs.declared.find.Finder.{Finder}
use Rattle.refusal.specs.declared.Refusal.{Refusal}
use Rattle.refusal.specs.declared.Refusal.TheVariants.{Counts}

-- how many counts blocks have
unfoldable pub slots_of : List Final → ℕ
slots_of = total (λ (f : Final). suc (length (outgoing f)))

pub record Fitting (lent slots n : ℕ) : Type 0 where
  pub is : n ≡ slots
  pub fits : n ≤ lent

abbrev pub room_in : ℕ → ℕ → Result ℕ Refusal → Type 0
room_in lent slots (Ok n) = Fitting lent slots n
room_in lent slots (Err e) = (e ≡ Counts) × (lent < slots)

-- accepted bytes, whose counts stand in a buffer
pub record Ready (b : List ℕ) : Type 0 where
  pub map : Map
  pub held : read b ≡ holds map
  pub few : slots_of (finals_at b 0) < 2 ^ 61

-- a block of the map as the code has it, and the place of its count among all
pub record Placed (b : List ℕ) (f : Final) (k : Block) (slot : ℕ) : Type 0 where
  pub before : List Final
  pub after : List Final
  pub is : finals_at b 0 ≡ before ++ f ∷ after
  pub block : BlockIs b f k
  pub slot_is : slot ≡ slots_of before

pub record FoundAt (b : List ℕ) (q : ℕ) (k : Block) (slot : ℕ) : Type 0 where
  pub final : Final
  pub starts : starting q (finals_at b 0) ≡ some final
  pub placed : Placed b final k slot

abbrev pub found_in : List ℕ → ℕ → Option Counted → Type 0
found_in b q (Some k) = FoundAt b q k.block k.slot
found_in b q None = starting q (finals_at b 0) ≡ none

-- ---- the index

-- of blocks fs, the one that starts at q is the first from an offset on
pub record Spot (b : List ℕ) (fs : List Final) (q at slot : ℕ) : Type 0 where
  pub before : List Final
  pub final : Final
  pub after : List Final
  pub is : finals_at b 0 ≡ before ++ finals_at b at
  pub here : finals_at b at ≡ final ∷ after
  pub starts : starting q fs ≡ some final
  pub slot_is : slot ≡ slots_of before
  pub walking : Walking b at

-- a row: empty where none of them starts at q
pub record RowIs (b : List ℕ) (fs : List Final) (work : List ℕ) (q : ℕ) : Type 0 where
  pub empty : num_at 8 work (16 * q) ≡ 0 → starting q fs ≡ none
  pub full : (num_at 8 work (16 * q) ≢ 0) → Spot b fs q (num_at 8 work (16 * q) - 1) (num_at 8 work (16 * q + 8))

-- a row an address; no block starts beyond
pub record Rows (b : List ℕ) (fs : List Final) (work : List ℕ) (rows : ℕ) : Type 0 where
  pub fits : 16 * rows ≤ length work
  pub row : (q : ℕ) → q < rows → RowIs b fs work q
  pub beyond : (q : ℕ) → rows ≤ q → starting q fs ≡ none

abbrev pub Indexed : List ℕ → List ℕ → ℕ → Type 0
Indexed b work rows = Rows b (finals_at b 0) work rows

-- a row that is put
pub record RowPut (work : List ℕ) (start own slot : ℕ) (work' : List ℕ) : Type 0 where
  pub own_is : num_at 8 work' (16 * start) ≡ own + 1
  pub slot_is : num_at 8 work' (16 * start + 8) ≡ slot
  pub apart : (i : ℕ) → (i < 16 * start + 16 → i + 8 ≤ 16 * start) → num_at 8 work' i ≡ num_at 8 work i
  pub kept : length work' ≡ length work

-- the place of a destination among those of the block whose count stands at a slot
pub record EdgePlace (b : List ℕ) (slot q n : ℕ) : Type 0 where
  pub so : (before : List Final) (f : Final) (after : List Final) → finals_at b 0 ≡ before ++ f ∷ after → slot ≡ slots_of before → PlaceOf q (outgoing f) n

-- an entry that is filled tells its edge's place
pub record Tells (b work : List ℕ) (at : ℕ) : Type 0 where
  pub so : (slot n : ℕ) → num_at 8 work at ≡ slot + 1 → num_at 8 work (at + 16) ≡ n + 1 → EdgePlace b slot (num_at 8 work (at + 8)) n

-- entries behind the rows
pub record Table (b work : List ℕ) (rows : ℕ) : Type 0 where
  pub fits : 16 * rows ≤ length work
  pub entry : (i : ℕ) → Tells b work (16 * rows + 24 * i)

-- there are rows and entries, or no index
pub record Index (b work : List ℕ) (rows : Option ℕ) : Type 0 where
  pub built : {n : ℕ} → rows ≡ Some n → Indexed b work n
  pub edges : {n : ℕ} → rows ≡ Some n → Table b work n

-- accepted bytes with their index
pub record Finds (x : Finder) : Type 0 where
  pub ready : Ready x.map.now
  pub index : Index x.map.now x.work.now x.rows

pub record Filled (b work work' : List ℕ) (rows : Option ℕ) : Type 0 where
  pub index : Index b work' rows
  pub kept : length work' ≡ length work
