-- The path entries of a map's bytes. Assumes nothing.
use Rattle.std.specs.Prelude.{ℕ, ◌-◌, ◌<◌, ◌≡◌, Bool, true, false, List, [], ◌∷◌, length, Option, Some, None, Result, Ok, Err}
use Rattle.spec.specs.Opcodes.{in_mode}
use Rattle.spec.specs.Forms.{wide_in}
use Rattle.spec.specs.Inspector.{path_entries, WrongPath, all_wrong, since}
use Rattle.reader.specs.Shapes.{from}
use Rattle.reader.specs.Walks.{Walking}
use Rattle.reader.specs.declared.entry.Entry.{Entry}
use Rattle.reader.specs.declared.entry.Entry.TheVariants.{Head, Terminate, Jump, Jumpi, DynamicJump, DynamicJumpi, Way, Record}
use Rattle.reader.specs.declared.entry.Fault.{Fault}
use Rattle.inspector.specs.Edges.{map_in}
use Rattle.inspector.specs.Tables.{Filled}
use Rattle.inspector.specs.declared.entries.Shown.{Shown}
use Rattle.inspector.specs.declared.entries.Shown.TheVariants.{Path, Of}
use Rattle.inspector.specs.declared.entries.Wrong.{Wrong}

-- the start of a block; none of another entry
abbrev pub start_in : Result Entry Fault → Option ℕ
start_in (Ok (Terminate s e ok)) = Some s
start_in (Ok (Jump s e t)) = Some s
start_in (Ok (Jumpi s e t f)) = Some s
start_in (Ok (DynamicJump s e n)) = Some s
start_in (Ok (DynamicJumpi s e f n)) = Some s
start_in (Ok (Way d path n)) = None
start_in (Ok (Record s d v path n)) = None
start_in (Ok (Head size n m energy)) = None
start_in (Err fault) = None

-- a path of the block at s, where it is asked of and has a destination
abbrev pub shown_by : Bool → ℕ → ℕ → Option ℕ → ℕ → ℕ → Shown
shown_by false b s d path n = Of b
shown_by true b s None path n = Of b
shown_by true b s (Some t) path n = Path s (record { at = path; count = n; to = t })

abbrev pub shown_of : Result Entry Fault → ℕ → Bool → Shown
shown_of (Ok (Way d path n)) b asked = shown_by asked b b d path n
shown_of (Ok (Record s d v path n)) b asked = shown_by asked b s d path n
shown_of (Ok (Terminate s e ok)) b asked = Of s
shown_of (Ok (Jump s e t)) b asked = Of s
shown_of (Ok (Jumpi s e t f)) b asked = Of s
shown_of (Ok (DynamicJump s e n)) b asked = Of s
shown_of (Ok (DynamicJumpi s e f n)) b asked = Of s
shown_of (Ok (Head size n m energy)) b asked = Of b
shown_of (Err fault) b asked = Of b

-- all that are not right of those at the offset `lo` or later, from an offset on, where b is the block before
abbrev pub wrong_since : ℕ → List ℕ → List ℕ → ℕ → ℕ → ℕ → List WrongPath
wrong_since mode map code lo b at = all_wrong (in_mode mode) code (map_in map) (since lo (path_entries (wide_in map) b (from map at)))

-- a finding, and what is behind it
abbrev pub wrong_in : ℕ → List ℕ → List ℕ → ℕ → Result Unit Wrong → List WrongPath
wrong_in mode map code lo (Ok u) = []
wrong_in mode map code lo (Err x) = record { offset = x.offset; place = x.place } ∷ wrong_since mode map code lo x.owner x.behind

pub record LooksAt (mode : ℕ) (map code : List ℕ) (lo start block : ℕ) (w w' : List ℕ) (r : Result Unit Wrong) : Type 0 where
  pub is : wrong_since mode map code lo block start ≡ wrong_in mode map code lo r
  pub walking : {x : Wrong} → r ≡ Err x → Walking map x.behind
  pub less : {x : Wrong} → r ≡ Err x → length map - x.behind < length map - start
  pub filled : Filled map code w w'
