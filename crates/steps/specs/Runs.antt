-- What the lent buffers hold, and what a function that does what document 01's f does answers and leaves. Assumes nothing.
use Rattle.std.specs.Prelude.{◌≡◌, ℕ, List, []}
use Rattle.spec.specs.Search.{Rec, St}
use Rattle.spec.specs.Rooms.{Lent, shortage}
use Rattle.theorems.specs.Needs.{clear}
use Rattle.layout.specs.Buffers.{Mem}
use Rattle.tables.specs.Tables as tables
use Rattle.tables.specs.Tables.{mem, recs}
use Rattle.tables.specs.Recording.{Lends}
use Rattle.tables.specs.Rows.{met_of}
use Rattle.tables.specs.declared.Rooms.{Rooms}
use Rattle.tables.specs.declared.Counts.{Counts}
use Rattle.steps.specs.declared.plan.Plan.{Plan}
use Rattle.steps.specs.Goings.{Gone}

-- those that hold the records
abbrev pub tabled : Mem → tables.Mem
tabled m = mem m.w m.r m.q m.s

abbrev pub recs_in : Plan → Mem → Counts → List Rec
recs_in k m c = recs k.rooms (tabled m) c

-- the state of document 01 that they hold, with no needs noted
abbrev pub st_of : Plan → Mem → Gone → St
st_of k m o =
    record { recs = recs_in k m o.counts; energy = o.energy; met = met_of m.t m.s o.counts.rows; needs = [] }

-- From every state that is `a` but for its needs, none of which is short: the code is the first shortage after f, and where it is 0, `b` is what f makes,
-- but for its needs.
pub record Did (k : Rooms) (f : St → St) (a : St) (code : ℕ) (b : St) : Type 0 where
  pub short : (l : Lent) → Lends l k → (mid : St) → clear mid ≡ a → shortage l mid.needs ≡ 0 → shortage l (f mid).needs ≡ code
  pub made : (mid : St) → clear mid ≡ a → code ≡ 0 → clear (f mid) ≡ b
