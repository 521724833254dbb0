-- What holds of the lent buffers inside a turn, and of a level and a parent in hand. Assumes nothing.
use Rattle.std.specs.Prelude.{◌≡◌, ℕ, ◌+◌, ◌-◌, ◌*◌, ◌^◌, ◌≤◌, ◌<◌, List, length, take, drop}
use Rattle.spec.specs.Opcodes.{in_mode}
use Rattle.spec.specs.Stacks.{cells}
use Rattle.spec.specs.Search as search
use Rattle.spec.specs.Search.{Turn, Parent, parent, direct, Node}
use Rattle.spec.specs.Answer.{prepared}
use Rattle.layout.specs.Parts.{bucket_place, SameRows}
use Rattle.layout.specs.Records.{to_at}
use Rattle.layout.specs.Rows.{start_of}
use Rattle.layout.specs.Buffers.{Mem}
use Rattle.state.specs.Cells.{stack_at, State}
use Rattle.exec.specs.Owns.{room_of}
use Rattle.tables.specs.Addrs.{addrs}
use Rattle.tables.specs.Tables.{Tables}
use Rattle.tables.specs.Mets.{Remembers, Packs}
use Rattle.tables.specs.declared.Counts.{Counts}
use Rattle.parents.specs.Links.{Comes}
use Rattle.parents.specs.Promises.{Known}
use Rattle.reachable.specs.Marks.{flagged}
use Rattle.reachable.specs.Promises.{Room}
use Rattle.steps.specs.Cursors.{path_cursor, stack_cursor}
use Rattle.steps.specs.Paths.{Inside, OnPath}
use Rattle.steps.specs.Sound.{DEEPEST, SoundStack, SoundRecs}
use Rattle.steps.specs.Lands.{Marks}
use Rattle.steps.specs.Runs.{tabled, recs_in}
use Rattle.steps.specs.Plans.{mode_in}
use Rattle.steps.specs.declared.plan.Plan.{Plan}
use Rattle.steps.specs.Helds.{Helds}
use Rattle.steps.specs.declared.Level.{Level}

-- the code's blocks after the first stage, in the plan's mode
abbrev pub prepared_in : Plan → List ℕ → List Node
prepared_in k code = prepared (in_mode (mode_in k)) code

-- the plan is the code's, the buffers are as long as it says, and the states that W holds behind its buckets in use are those of their blocks
pub record Planned (code : List ℕ) (k : Plan) (m : Mem) : Type 0 where
  pub is : k.size ≡ length code
  pub limit : k.limit ≤ 500000
  pub moded : k.mode ≤ 1
  pub lent_w : Room k.size m.w
  pub ends : k.end ≤ length m.w
  pub scratch : bucket_place k.size k.buckets + room_of code ≤ k.end
  pub helds : Helds k code m.w
  pub lent_p : 2 * k.rooms.p ≤ length m.p
  pub most_p : k.rooms.p ≤ 2 ^ 30
  pub shelves : 1 ≤ k.rooms.t → 1 ≤ k.shelves

-- the buffers in the turn t of the block at `start`, in a round that began with `since` records
pub record Fits (code : List ℕ) (k : Plan) (t : Turn) (since start : ℕ) (m : Mem) (c : Counts) : Type 0 where
  pub planned : Planned code k m
  pub stored : t.stored ≡ direct (prepared_in k code)
  pub started : t.start ≡ start
  pub starts : start ≤ k.size
  pub tables : Tables k.size k.buckets k.rooms (tabled m) c
  pub remembers : Remembers k.shelves k.rooms m.t m.s c
  pub packs : Packs (cells t.first) m.t c
  pub known : Known (mode_in k) code m.w k.takers
  pub began : since ≤ c.records
  pub marks : Marks k.size m.w t.reached since (recs_in k m c)
  pub sound : SoundRecs k.size (recs_in k m c)

-- ---- a level: its path in P, and its state among the cells in use

abbrev pub level_of : Mem → Level → search.Level
level_of m l = record { path = addrs m.p 0 l.np; position = l.position; state = stack_at m.s (9 * l.from) l.cells }

pub record Stands (k : Plan) (m : Mem) (c : Counts) (l : Level) : Type 0 where
  pub some : 1 ≤ l.np
  pub room : l.np ≤ k.rooms.p
  pub inside : Inside k.size (addrs m.p 0 l.np)
  pub state : State m.s (9 * l.from) l.cells
  pub low : l.from + l.cells ≤ c.used
  pub sound : SoundStack k.size l.np (stack_at m.s (9 * l.from) l.cells)
  pub near : l.position ≤ l.np * DEEPEST
  pub left : l.left ≤ 255

-- the counts in W are those of the level's path
abbrev pub OnIts : Plan → Mem → Level → Type 0
OnIts k m l = OnPath k.size m.w (addrs m.p 0 l.np)

-- ---- a parent of the block b, by its number

abbrev pub held : List ℕ → Plan → Mem → ℕ → ℕ → Parent
held code k m b at = parent b (path_cursor m.r m.q at) (stack_cursor (mode_in k) code m.r m.s k.rooms.s at)

pub record Parental (code : List ℕ) (k : Plan) (m : Mem) (c : Counts) (at : ℕ) : Type 0 where
  pub some : 1 ≤ at
  pub comes : at < 0x10000 → Comes code (start_of at)
  pub near : at < 0x10000 → start_of at ≤ k.size
  pub there : 0x10000 ≤ at → at - 0x10000 < c.records
  pub leads : 0x10000 ≤ at → to_at m.r (at - 0x10000) ≤ k.size
  pub long : 0x10000 ≤ at → 2 ≤ length (path_cursor m.r m.q at)
  pub inside : Inside k.size (path_cursor m.r m.q at)
  pub sound : SoundStack k.size (length (path_cursor m.r m.q at)) (stack_cursor (mode_in k) code m.r m.s k.rooms.s at)

-- ---- what stays, while a level with a path of np addresses is tried: that path, the cells in use, W's rows and flags, what is beyond its parts, and the
-- records

pub record Stays (k : Plan) (np : ℕ) (m : Mem) (c : Counts) (m' : Mem) (c' : Counts) : Type 0 where
  pub path : take (2 * np) m'.p ≡ take (2 * np) m.p
  pub bottom : take (9 * c.used) m'.s ≡ take (9 * c.used) m.s
  pub rows : SameRows k.size m.w m'.w
  pub flags : flagged m'.w k.size ≡ flagged m.w k.size
  pub beyond : drop k.end m'.w ≡ drop k.end m.w
  pub uses : c.used ≤ c'.used
  pub more : c.records ≤ c'.records
  pub older : take c.records (recs_in k m' c') ≡ recs_in k m c
