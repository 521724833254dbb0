-- The blocks of a stored map and their destinations, as the code goes over them. Assumes nothing.
use Rattle.std.specs.Prelude.{◌≡◌, ℕ, ◌+◌, ◌*◌, ◌<◌, ◌≤◌, List, [], ◌∷◌, ◌++◌, length, Option, Some, None, Result, Ok, Err}
use Rattle.std.specs.Iterator.{Count, at_most}
use Rattle.spec.specs.Search.{dests}
use Rattle.spec.specs.Ending.{Final}
use Rattle.spec.specs.Reader.{ways, finals_in}
use Rattle.spec.specs.Counting.{distinct}
use Rattle.spec.specs.Follow.{starts_at, outgoing}
use Rattle.reader.specs.Walks.{items_from, Walking}
use Rattle.reader.specs.declared.entry.Entry.{Entry}
use Rattle.reader.specs.declared.entry.Entry.TheVariants.{Head, Terminate, Jump, Jumpi, DynamicJump, DynamicJumpi, Way, Record}
use Rattle.reader.specs.declared.entry.Fault.{Fault}
use Rattle.follow.specs.declared.block.Sides.{Sides}
use Rattle.follow.specs.declared.block.Sides.TheVariants.{Zero, One, Two}
use Rattle.follow.specs.declared.block.Named.{Named}
use Rattle.follow.specs.declared.block.Block.{Block}
use Rattle.follow.specs.declared.block.Blocks.{Blocks}
use Rattle.follow.specs.declared.destination.Seven.{Seven}
use Rattle.follow.specs.declared.destination.Lead.{Lead}
use Rattle.follow.specs.declared.destination.Destinations.{Destinations}

-- ---- what stands from an offset on

-- the blocks
unfoldable pub finals_at : List ℕ → ℕ → List Final
finals_at b at = finals_in (items_from b at)

-- the destinations of the 7s that come first
unfoldable pub outs_at : List ℕ → ℕ → List ℕ
outs_at b at = dests (ways 0 (items_from b at))

-- ---- blocks

-- of an entry that stands at an offset, with the offset behind it
abbrev pub block_with : ℕ → ℕ → Sides → ℕ → ℕ → Option Block
block_with s e sides own at = Some (record { start = s; end = e; named = record { sides = sides; at = at }; own = own })

abbrev pub block_of : Result Entry Fault → ℕ → ℕ → Option Block
block_of (Ok (Terminate s e ok)) own at = block_with s e Zero own at
block_of (Ok (Jump s e to)) own at = block_with s e (One to) own at
block_of (Ok (Jumpi s e t f)) own at = block_with s e (Two t f) own at
block_of (Ok (DynamicJump s e n)) own at = block_with s e Zero own at
block_of (Ok (DynamicJumpi s e f n)) own at = block_with s e (One f) own at
block_of (Ok (Head size n m energy)) own at = None
block_of (Ok (Way to path n)) own at = None
block_of (Ok (Record s to energy path n)) own at = None
block_of (Err fault) own at = None

-- static sides
abbrev pub sides_in : Sides → List ℕ
sides_in Zero = []
sides_in (One x) = x ∷ []
sides_in (Two x y) = x ∷ y ∷ []

-- the destinations that are left
unfoldable pub named_by : List ℕ → Named → List ℕ
named_by b c = sides_in c.sides ++ outs_at b c.at

-- a block of the map, as the code has it; of equal sides both stand in the list
pub record BlockIs (b : List ℕ) (f : Final) (k : Block) : Type 0 where
  pub start : k.start ≡ starts_at f
  pub end : k.end ≡ f.block.end
  pub named : distinct (named_by b k.named) ≡ outgoing f
  pub walking : Walking b k.named.at

-- the blocks from an offset on begin with this one
pub record Begins (b : List ℕ) (at : ℕ) (k : Block) : Type 0 where
  pub final : Final
  pub is : BlockIs b final k
  pub here : finals_at b at ≡ final ∷ finals_at b k.named.at
  pub on : at < k.named.at
  pub own_here : finals_at b k.own ≡ final ∷ finals_at b k.named.at
  pub own_walking : Walking b k.own
  pub own_on : k.own < k.named.at

abbrev pub next_block : List ℕ → ℕ → Option Block → Type 0
next_block b at (Some k) = Begins b at k
next_block b at None = finals_at b at ≡ []

-- as an iterator: where it stands there is a walk, and behind a block it stands where that one's 7s begin
abbrev pub CanGo : Blocks → Type 0
CanGo s = Walking s.map.now s.at

pub record GivesBlock (s : Blocks) (r : Option Block) (t : Blocks) : Type 0 where
  pub here : next_block s.map.now s.at r
  pub same : t.map ≡ s.map
  pub behind : (k : Block) → r ≡ Some k → t.at ≡ k.named.at

abbrev pub blocks_left : Blocks → Count
blocks_left s = at_most (length (finals_at s.map.now s.at))

-- ---- destinations

abbrev pub way_of : Result Entry Fault → Option (Option ℕ)
way_of (Ok (Way to path n)) = Some to
way_of (Ok (Terminate s e ok)) = None
way_of (Ok (Jump s e to)) = None
way_of (Ok (Jumpi s e t f)) = None
way_of (Ok (DynamicJump s e n)) = None
way_of (Ok (DynamicJumpi s e f n)) = None
way_of (Ok (Head size n m energy)) = None
way_of (Ok (Record s to energy path n)) = None
way_of (Err fault) = None

pub record SevenTo (b : List ℕ) (at to behind : ℕ) : Type 0 where
  pub is : outs_at b at ≡ to ∷ outs_at b behind
  pub walking : Walking b behind
  pub on : at + 6 ≤ behind

abbrev pub next_seven : List ℕ → ℕ → Option Seven → Type 0
next_seven b at (Some s) = SevenTo b at s.to s.behind
next_seven b at None = outs_at b at ≡ []

-- how many static sides
abbrev pub many_in : Sides → ℕ
many_in Zero = 0
many_in (One x) = 1
many_in (Two x y) = 2

-- a step takes a side, or 6 bytes at least
pub record Leads (b : List ℕ) (c : Named) (to : ℕ) (rest : Named) : Type 0 where
  pub is : named_by b c ≡ to ∷ named_by b rest
  pub walking : Walking b rest.at
  pub few : many_in rest.sides ≤ many_in c.sides
  pub spent : 6 * many_in rest.sides + c.at + 6 ≤ 6 * many_in c.sides + rest.at

abbrev pub next_dest : List ℕ → Named → Option Lead → Type 0
next_dest b c (Some l) = Leads b c l.to l.rest
next_dest b c None = named_by b c ≡ []

-- as an iterator
abbrev pub CanLead : Destinations → Type 0
CanLead s = Walking s.map.now s.named.at

abbrev pub named_left : Destinations → List ℕ
named_left s = named_by s.map.now s.named

abbrev pub dests_left : Destinations → Count
dests_left s = at_most (length (named_left s))
