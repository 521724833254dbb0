-- The own states of the blocks that a search has run, held in W behind the buckets in use as long as there is room before the part for runs: a state is a
-- head, the cell whose first two bytes have the number of its cells, and these cells. The link of an address is the number of the head and 1 more, 0 where no
-- state of it is held. Assumes nothing.
use Rattle.std.specs.Prelude.{Option, Some, None, ◌≡◌, ◌⊎◌, List, ℕ, ◌+◌, ◌-◌, ◌*◌, ◌≤◌, ◌<◌, length, take, drop}
use Rattle.spec.specs.Opcodes.{in_mode}
use Rattle.spec.specs.Lists.{little}
use Rattle.spec.specs.Stacks.{own}
use Rattle.spec.specs.Rooms.{longest}
use Rattle.lent.specs.Bytes.{num_at, Stored}
use Rattle.layout.specs.Parts.{link_place, filled_place, cell_place}
use Rattle.state.specs.Cells.{Lies}
use Rattle.exec.specs.Owns.{runs_room, Owned}
use Rattle.exec.specs.declared.run.Own.{Own}
use Rattle.steps.specs.Plans.{mode_in, RunsIn}
use Rattle.steps.specs.declared.plan.Plan.{Plan}
use Rattle.steps.specs.declared.own.StateAt.{StateAt}

-- ---- the numbers there

abbrev pub link_of : Plan → List ℕ → ℕ → ℕ
link_of k w a = num_at 2 w (link_place k.size k.buckets a)

abbrev pub filled_of : Plan → List ℕ → ℕ
filled_of k w = num_at 4 w (filled_place k.size k.buckets)

abbrev pub cell_of : Plan → ℕ → ℕ
cell_of k i = cell_place k.size k.buckets i

-- as many cells as the head in cell i says
abbrev pub count_of : Plan → List ℕ → ℕ → ℕ
count_of k w i = num_at 2 w (cell_of k i)

-- ---- what holds of them all through the search

-- behind the head before cell i, in cells that are in use, lies the own state of the block at a; it has no more cells than the part for runs
pub record HeldAt (k : Plan) (code w : List ℕ) (a i : ℕ) : Type 0 where
  pub few : count_of k w (i - 1) ≤ k.size + 17
  pub used : i + count_of k w (i - 1) ≤ filled_of k w
  pub lies : Lies w (cell_of k i) (count_of k w (i - 1)) (own (in_mode (mode_in k)) code a).stack

pub record Helds (k : Plan) (code w : List ℕ) : Type 0 where
  pub room : cell_of k (filled_of k w) + runs_room k.size ≤ k.end
  pub each : (a : ℕ) → a ≤ k.size → (link_of k w a ≡ 0 → ⊥) → HeldAt k code w a (link_of k w a)

-- ---- the functions

-- a state of so many cells stands in the part for runs, from `at` on
pub record HoldAsks (k : Plan) (w : List ℕ) (start at cells : ℕ) : Type 0 where
  pub inside : start ≤ k.size
  pub short : k.size ≤ longest
  pub ends : k.end ≤ length w
  pub room : cell_of k (filled_of k w) + runs_room k.size ≤ k.end
  pub low : k.end - runs_room k.size ≤ at
  pub high : at + 9 * cells ≤ k.end

-- a link has two bytes, and behind the cells in use there is room for a head and so many cells more
abbrev pub HeldRoom : Plan → List ℕ → ℕ → Type 0
HeldRoom k w cells = (filled_of k w < 65535) × (cell_of k (filled_of k w + 1 + cells) + runs_room k.size ≤ k.end)

-- the state was put behind a head, and linked
pub record HeldPut (k : Plan) (w : List ℕ) (start at cells : ℕ) (w' : List ℕ) : Type 0 where
  pub w₁ : List ℕ
  pub head : Stored 2 w (cell_of k (filled_of k w)) (little 2 cells) w₁
  pub w₂ : List ℕ
  pub state : Stored (9 * cells) w₁ (cell_of k (filled_of k w + 1)) (take (9 * cells) (drop at w₁)) w₂
  pub w₃ : List ℕ
  pub link : Stored 2 w₂ (link_place k.size k.buckets start) (little 2 (filled_of k w + 1)) w₃
  pub total : Stored 4 w₃ (filled_place k.size k.buckets) (little 4 (filled_of k w + 1 + cells)) w'

pub record HoldDone (k : Plan) (w : List ℕ) (start at cells : ℕ) (w' : List ℕ) : Type 0 where
  pub is : (HeldRoom k w cells × HeldPut k w start at cells w') ⊎ ((HeldRoom k w cells → ⊥) × (w' ≡ w))

-- a link that is there leads to a cell of W
pub record HeldAsks (k : Plan) (w : List ℕ) (start : ℕ) : Type 0 where
  pub inside : start ≤ k.size
  pub room : cell_of k 0 ≤ length w
  pub leads : (link_of k w start ≡ 0 → ⊥) → cell_of k (link_of k w start) ≤ length w

pub record HeldIs (k : Plan) (w : List ℕ) (start : ℕ) (x : Option StateAt) : Type 0 where
  pub is : ((link_of k w start ≡ 0) × (x ≡ None))
      ⊎ ((link_of k w start ≡ 0 → ⊥) × (x ≡ Some (record { at = cell_of k (link_of k w start); n = count_of k w (link_of k w start - 1) })))

pub record OwnAsks (k : Plan) (code w : List ℕ) (start : ℕ) : Type 0 where
  pub runs : RunsIn code w k
  pub helds : Helds k code w
  pub is : k.size ≡ length code
  pub inside : start ≤ k.size

-- the block was run, and its state held if there was room
pub record RanNow (k : Plan) (code : List ℕ) (start : ℕ) (w w' : List ℕ) (x : StateAt) : Type 0 where
  pub w₁ : List ℕ
  pub own : Own
  pub owned : Owned (mode_in k) code start w k.end w₁ own
  pub held : HoldDone k w₁ start own.at own.n w'
  pub is : x ≡ record { at = own.at; n = own.n }

-- where the state of the block at `start` stands
pub record Gave (k : Plan) (code : List ℕ) (start : ℕ) (w w' : List ℕ) (x : StateAt) : Type 0 where
  pub is : ((link_of k w start ≡ 0 → ⊥) × (w' ≡ w) × (x ≡ record { at = cell_of k (link_of k w start); n = count_of k w (link_of k w start - 1) }))
      ⊎ ((link_of k w start ≡ 0) × RanNow k code start w w' x)
