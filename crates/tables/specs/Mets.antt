-- Remembering, against document 01's: what is answered, and what it leaves. Assumes nothing.
use Rattle.std.specs.Prelude.{◌≡◌, ℕ, ◌+◌, ◌*◌, ◌^◌, ◌<◌, ◌≤◌, List, [], ◌∷◌, length, take, drop, ◌≢◌}
use Rattle.spec.specs.Search.{T, Need}
use Rattle.layout.specs.Seens.{seen_place, place_at, cells_at, top_at}
use Rattle.state.specs.Cells.{State}
use Rattle.tables.specs.Chains.{newest}
use Rattle.tables.specs.Recording.{short_of}
use Rattle.tables.specs.Rows.{shelf_at, met_of, seen_met, stamp_of, used_of, MetRow, Shelves, Stamped, SameTold, Pushed}
use Rattle.tables.specs.declared.Rooms.{Rooms}
use Rattle.tables.specs.declared.Counts.{Counts}
use Rattle.tables.specs.Replies.{Reply}
use Rattle.tables.specs.declared.row.Seen.{Seen}

-- all that holds of the remembered rows: each lies in T, its state within the cells in use at the bottom of S
pub record Remembers (buckets : ℕ) (k : Rooms) (t s : List ℕ) (c : Counts) : Type 0 where
  pub rows : (i : ℕ) → i < c.rows → MetRow t s i
  pub inside : (i : ℕ) → i < c.rows → place_at t i + cells_at t i ≤ c.used
  pub shelves : Shelves buckets t c.rows
  pub fits_t : c.rows ≤ k.t
  pub lent_t : seen_place k.t ≤ length t
  pub most_t : k.t ≤ 2 ^ 30
  pub fits_s : 9 * c.used ≤ length s
  pub most_s : c.used ≤ 2 ^ 30

-- they and a first state use the cells at the bottom
pub record Packs (first : ℕ) (t : List ℕ) (c : Counts) : Type 0 where
  pub is : used_of t first c.rows ≡ c.used

-- a state that stands right after the cells in use
pub record Fresh (s : List ℕ) (c : Counts) (x : Seen) : Type 0 where
  pub state : State s (9 * x.from) x.cells
  pub next : x.from ≡ c.used
  pub last : x.last < 2 ^ 16
  pub most : c.used + x.cells ≤ 2 ^ 30

pub record Memorizes (buckets : ℕ) (k : Rooms) (t s : List ℕ) (c : Counts) (x : Seen) (sum : ℕ) : Type 0 where
  pub some : 1 ≤ buckets
  pub remembers : Remembers buckets k t s c
  pub fresh : Fresh s c x
  pub stamped : Stamped s x sum

abbrev pub row_needs : Counts → List Need
row_needs c = record { room = T; units = c.rows + 1 } ∷ []

abbrev pub remembering : Counts → Seen → Counts
remembering c x = record { records = c.records; addresses = c.addresses; kept = c.kept; used = c.used + x.cells; rows = c.rows + 1 }

-- The code is the shortage of T; where it is 0 a row more is remembered, on its shelf, and else T is untouched.
pub record Memorized (buckets : ℕ) (k : Rooms) (t s : List ℕ) (c : Counts) (x : Seen) (t' : List ℕ) (a : Reply) : Type 0 where
  pub code : a.code ≡ short_of k (row_needs c)
  pub made : a.code ≡ 0 → met_of t' s a.counts.rows ≡ seen_met s x ∷ met_of t s c.rows
  pub pushed : a.code ≡ 0 → Pushed buckets t c.rows x (stamp_of s x) t'
  pub counts : a.code ≡ 0 → a.counts ≡ remembering c x
  pub refused : (a.code ≢ 0) → (t' ≡ t) × (a.counts ≡ c)
  pub remembers : Remembers buckets k t' s a.counts
  pub packs : (first : ℕ) → Packs first t c → Packs first t' a.counts
  pub long : length t' ≡ length t

-- ---- the heads of the shelves: T is as it was but for them

pub record Heads (buckets : ℕ) (t t' : List ℕ) : Type 0 where
  pub told : (i : ℕ) → SameTold t t' i
  pub parts : (n i o : ℕ) → o + n ≤ 28 → take n (drop (seen_place i + o) t') ≡ take n (drop (seen_place i + o) t)
  pub tops : (h : ℕ) → buckets ≤ h → top_at t' h ≡ top_at t h
  pub long : length t' ≡ length t

pub record Begins (buckets : ℕ) (t : List ℕ) : Type 0 where
  pub in_t : seen_place buckets ≤ length t

-- no row is on a shelf
pub record Emptied (buckets : ℕ) (t t' : List ℕ) : Type 0 where
  pub shelves : Shelves buckets t' 0
  pub heads : Heads buckets t t'

-- the first i heads are wiped
pub record Wiped (buckets : ℕ) (t : List ℕ) (i : ℕ) (t' : List ℕ) : Type 0 where
  pub most : i ≤ buckets
  pub zeros : (h : ℕ) → h < i → top_at t' h ≡ 0
  pub heads : Heads buckets t t'

-- the heads of the shelves of the first i rows are wiped
pub record Forgetting (buckets : ℕ) (t : List ℕ) (m i : ℕ) (t' : List ℕ) : Type 0 where
  pub most : i ≤ m
  pub keeps : (h : ℕ) → h < buckets → newest (shelf_at buckets t) h i ≡ 0 → top_at t' h ≡ top_at t h
  pub zeros : (h : ℕ) → h < buckets → (newest (shelf_at buckets t) h i ≢ 0) → top_at t' h ≡ 0
  pub heads : Heads buckets t t'
