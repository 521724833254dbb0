-- The records as a whole: what holds of the buffers, and what a record more leaves. Assumes nothing.
use Rattle.std.specs.Prelude.{◌≡◌, ℕ, suc, ◌+◌, ◌-◌, ◌*◌, ◌^◌, ◌<◌, ◌≤◌, List, [], ◌∷◌, ◌++◌, length, take, drop, Option, Some, None}
use Rattle.spec.specs.Stacks.{Stack}
use Rattle.spec.specs.Search.{Found, nowhere, found, Rec}
use Rattle.layout.specs.Fields.{first_found_at, last_found_at, newest_at}
use Rattle.layout.specs.Marks.{NOWHERE}
use Rattle.layout.specs.Parts.{bucket_place}
use Rattle.layout.specs.Records.{record_place, R-FREE, to_at, end_of, kept_of}
use Rattle.state.specs.Cells.{stack_at, State}
use Rattle.tables.specs.Addrs.{addrs, Path, Summed}
use Rattle.tables.specs.Records.{recs_of, Row, Chains}
use Rattle.tables.specs.Links.{SameRow, Parents, Beyond}
use Rattle.tables.specs.declared.Rooms.{Rooms}
use Rattle.tables.specs.declared.Counts.{Counts}
use Rattle.tables.specs.declared.Entry.{Entry}
use Rattle.tables.specs.declared.link.Fields.{Fields}

-- the buffers that hold the records
pub record Mem : Type 0 where
  pub w : List ℕ
  pub r : List ℕ
  pub q : List ℕ
  pub s : List ℕ

abbrev pub mem : List ℕ → List ℕ → List ℕ → List ℕ → Mem
mem w r q s = record { w = w; r = r; q = q; s = s }

-- the records that they hold
abbrev pub recs : Rooms → Mem → Counts → List Rec
recs k m c = recs_of m.r m.q m.s k.s c.records

-- record i leads nowhere and keeps nothing, or to an address up to n, with a state among the kept cells
pub data Goes (n room : ℕ) (r s : List ℕ) (i : ℕ) : Type 0 where
  leads_nowhere : to_at r i ≡ NOWHERE → kept_of r (suc i) ≡ kept_of r i → Goes n room r s i
  leads : to_at r i ≤ n → State s (9 * (room - kept_of r (suc i))) (kept_of r (suc i) - kept_of r i) → Goes n room r s i

-- the counts are within the rooms, and the rooms within the buffers
pub record Within (k : Rooms) (m : Mem) (c : Counts) : Type 0 where
  pub fits_r : c.records ≤ k.r
  pub fits_q : c.addresses ≤ k.q
  pub fits_s : c.kept + c.used ≤ k.s
  pub lent_r : record_place k.r ≤ length m.r
  pub lent_q : 2 * k.q ≤ length m.q
  pub lent_s : 9 * k.s ≤ length m.s
  pub most_r : k.r ≤ 2 ^ 30
  pub most_q : k.q ≤ 2 ^ 30
  pub most_s : k.s ≤ 2 ^ 30

-- all that holds of the records
pub record Tables (n buckets : ℕ) (k : Rooms) (m : Mem) (c : Counts) : Type 0 where
  pub few : n < NOWHERE
  pub within : Within k m c
  pub rows : (i : ℕ) → i < c.records → Row m.r m.q i
  pub goes : (i : ℕ) → i < c.records → Goes n k.s m.r m.s i
  pub ends : end_of m.r c.records ≡ c.addresses
  pub kept : kept_of m.r c.records ≡ c.kept
  pub chains : Chains n buckets m.w m.r c.records
  pub parents : Parents n m.w m.r c.records

-- ---- what else may change

-- the same with other cells in use at the bottom of S, and other remembered rows
abbrev pub in_turn : Counts → ℕ → ℕ → Counts
in_turn c used rows = record { records = c.records; addresses = c.addresses; kept = c.kept; used = used; rows = rows }

-- the fields of W that are the records' are the same
pub record SameLinks (n buckets : ℕ) (w w' : List ℕ) : Type 0 where
  pub firsts : (a : ℕ) → a ≤ n → first_found_at w' n a ≡ first_found_at w n a
  pub lasts : (a : ℕ) → a ≤ n → last_found_at w' n a ≡ last_found_at w n a
  pub heads : (h : ℕ) → h < buckets → newest_at w' n h ≡ newest_at w n h
  pub long : length w' ≡ length w

-- and they are 0 before the first record
pub record NoLinks (n buckets : ℕ) (w : List ℕ) : Type 0 where
  pub some : 1 ≤ buckets
  pub in_w : bucket_place n buckets ≤ length w
  pub firsts : (a : ℕ) → a ≤ n → first_found_at w n a ≡ 0
  pub lasts : (a : ℕ) → a ≤ n → last_found_at w n a ≡ 0
  pub heads : (h : ℕ) → h < buckets → newest_at w n h ≡ 0

-- ---- a record more

-- where a destination, or none, and a state lead
abbrev pub found_by : Option ℕ → Stack → Found
found_by None x = nowhere
found_by (Some to) x = found to x

abbrev pub new_found : List ℕ → Entry → Found
new_found s e = found_by e.to (stack_at s (9 * e.from) e.cells)

abbrev pub new_rec : List ℕ → Entry → List ℕ → Rec
new_rec s e path = record { start = e.start; to = new_found s e; path = path; energy = e.energy }

-- there is no destination and nothing to keep, or a state stands in S
pub data Enters (n : ℕ) (s : List ℕ) (e : Entry) : Type 0 where
  enters_nowhere : e.to ≡ None → e.cells ≡ 0 → Enters n s e
  enters : {to : ℕ} → e.to ≡ Some to → to ≤ n → State s (9 * e.from) e.cells → Enters n s e

-- what can be recorded: a path, and an entry
pub record Ready (p : List ℕ) (np n buckets : ℕ) (k : Rooms) (m : Mem) (c : Counts) (e : Entry) : Type 0 where
  pub tables : Tables n buckets k m c
  pub path : Path p 0 np
  pub most : np ≤ 2 ^ 30
  pub start : e.start < 2 ^ 16
  pub energy : e.energy < 2 ^ 32
  pub entry : Enters n m.s e
  pub inside : e.from + e.cells ≤ c.used

-- the entry of a path that leads nowhere
abbrev pub no_entry : ℕ → ℕ → Entry
no_entry start energy = record { start = start; to = None; from = 0; cells = 0; energy = energy }

-- and there is room for it
pub record Adds (p : List ℕ) (np n buckets : ℕ) (k : Rooms) (m : Mem) (c : Counts) (e : Entry) (sum : ℕ) : Type 0 where
  pub ready : Ready p np n buckets k m c e
  pub summed : Summed (addrs p 0 np) sum
  pub room_r : c.records + 1 ≤ k.r
  pub room_q : c.addresses + np ≤ k.q
  pub room_s : c.kept + c.used + e.cells ≤ k.s

-- what the new row is to say, and the counts after it
abbrev pub fields : Counts → ℕ → Entry → ℕ → Fields
fields c np e sum = record { start = e.start; to = e.to; ends = c.addresses + np; kept = c.kept + e.cells; sum = sum; energy = e.energy }

abbrev pub counted : Counts → ℕ → ℕ → Counts
counted c np cells = record { records = c.records + 1; addresses = c.addresses + np; kept = c.kept + cells; used = c.used; rows = c.rows }

-- they fit 64 bits
pub record Counting (c : Counts) (np : ℕ) (e : Entry) : Type 0 where
  pub records : c.records + 1 < 2 ^ 64
  pub addresses : c.addresses + np < 2 ^ 64
  pub kept : c.kept + e.cells < 2 ^ 64

-- a state of S, and a place for it among the kept cells
pub record Keeps (s : List ℕ) (room kept from cells : ℕ) : Type 0 where
  pub source : 9 * (from + cells) ≤ length s
  pub fits : cells ≤ kept
  pub most : kept ≤ room
  pub lent : 9 * room ≤ length s

-- what stays of R, Q and S, where the counts c became d: the older records but for a link to the next parent, and every byte that is not the new record's
pub record Stays (k : Rooms) (c d : Counts) (r q s r' q' s' : List ℕ) : Type 0 where
  pub rows : (i : ℕ) → i < c.records → SameRow r r' i
  pub tail : drop (record_place c.records + R-FREE) r' ≡ drop (record_place c.records + R-FREE) r
  pub long_r : length r' ≡ length r
  pub front_q : take (2 * c.addresses) q' ≡ take (2 * c.addresses) q
  pub back_q : drop (2 * d.addresses) q' ≡ drop (2 * d.addresses) q
  pub long_q : length q' ≡ length q
  pub front_s : take (9 * (k.s - d.kept)) s' ≡ take (9 * (k.s - d.kept)) s
  pub back_s : drop (9 * (k.s - c.kept)) s' ≡ drop (9 * (k.s - c.kept)) s
  pub long_s : length s' ≡ length s

pub record Added (p : List ℕ) (np n buckets : ℕ) (k : Rooms) (m : Mem) (c : Counts) (e : Entry) (m' : Mem) (d : Counts) : Type 0 where
  pub counts : d ≡ counted c np e.cells
  pub tables : Tables n buckets k m' d
  pub records : recs k m' d ≡ recs k m c ++ new_rec m.s e (addrs p 0 np) ∷ []
  pub stays : Stays k c d m.r m.q m.s m'.r m'.q m'.s
  pub beyond : Beyond n buckets m.w m'.w
