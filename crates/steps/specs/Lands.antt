-- When an address counts as reached, and what a path's end adds to that and to the records. Assumes nothing.
use Rattle.std.specs.Prelude.{◌≡◌, ◌⊎◌, Bool, true, ◌&&◌, ◌||◌, ℕ, ◌+◌, ◌*◌, ◌≤◌, List, [], ◌∷◌, ◌++◌, eqb, ltb, length, take}
use Rattle.spec.specs.Lists.{if, mem}
use Rattle.spec.specs.Search.{Found, nowhere, found, Rec, dest, dests, kept, St, Turn}
use Rattle.spec.specs.Rooms.{Lent, or_else, shortage}
use Rattle.theorems.specs.Needs.{clear}
use Rattle.layout.specs.Fields.{COUNT, FLAG, mark_at, high_at}
use Rattle.layout.specs.Parts.{SameRows, SameFields, SameList, PastBuckets}
use Rattle.tables.specs.Addrs.{addrs}
use Rattle.tables.specs.Tables as tables
use Rattle.tables.specs.Tables.{recs, counted, Tables, Ready, Stays}
use Rattle.tables.specs.Recording.{Lends, short_of, entry_needs, noted, Holding, with_recs, recorded?}
use Rattle.tables.specs.declared.Rooms.{Rooms}
use Rattle.tables.specs.declared.Counts.{Counts}
use Rattle.tables.specs.declared.Entry.{Entry}
use Rattle.tables.specs.Replies.{Reply}
use Rattle.reachable.specs.Marks.{marked_by}
use Rattle.reachable.specs.Edges.{sides_at}
use Rattle.reachable.specs.Promises.{Room, SidesWithin, Marked, Highest, raised, Raised}
use Rattle.steps.specs.declared.plan.Plan.{Plan}

-- An address counts as reached, for a level that opens with j records, if the round began with it reached or one of those records leads there. That holds
-- from the `since` records on with which the round began. And each address has its highest direct parent that is marked.
pub record Marks (n : ℕ) (w reached : List ℕ) (since : ℕ) (rs : List Rec) : Type 0 where
  pub by : (j : ℕ) → since ≤ j → j ≤ length rs → (a : ℕ) → a ≤ n → marked_by w n a (j + 1) ≡ mem a reached || mem a (dests (take j rs))
  pub most : (a : ℕ) → a ≤ n → mark_at w n a ≤ length rs + 1
  pub high : Highest n w

pub record Lands (p : List ℕ) (np : ℕ) (k : Plan) (m : tables.Mem) (c : Counts) (e : Entry) : Type 0 where
  pub lent : Room k.size m.w
  pub within : SidesWithin m.w k.size
  pub ready : Ready p np k.size k.buckets k.rooms m c e

-- the mark f of an address, when the record after the first l leads there (d) or not
abbrev pub remarked : Bool → ℕ → ℕ → ℕ
remarked d l f = if (d && eqb f 0) (l + 2) f

-- the highest direct parent h of the address y, when a record more, or none, leads there
abbrev pub heightened : List ℕ → Bool → Found → ℕ → ℕ → ℕ
heightened w new nowhere y h = h
heightened w new (found t s) y h = raised (new && mem y (sides_at w t)) t h

-- the address a of W is marked, if it has no mark, and in what that makes the highest parents of its sides are raised to it
pub record FoundMarked (n : ℕ) (w : List ℕ) (a when : ℕ) (w' : List ℕ) : Type 0 where
  pub between : List ℕ
  pub marks : Marked n w a when between
  pub raises : Raised n (sides_at between a) between a w'
  pub long : length w' ≡ length w

-- what stays, where the counts c became d: of R, Q and S every byte that is not a new record's but for an older one's link to the next parent, the cells
-- in use at the bottom of S among them; of W the rows, the counts and the flags of each address, the worklist and what lies past the buckets
pub record Around (k : Plan) (m : tables.Mem) (c : Counts) (m' : tables.Mem) (d : Counts) : Type 0 where
  pub front : SameRows k.size m.w m'.w
  pub rests : SameFields 4 COUNT k.size m.w m'.w
  pub flags : SameFields 2 FLAG k.size m.w m'.w
  pub work : SameList k.size m.w m'.w
  pub back : PastBuckets k.size k.buckets m.w m'.w
  pub long_w : length m'.w ≡ length m.w
  pub stays : Stays k.rooms c d m.r m.q m.s m'.r m'.q m'.s
  pub bottom : take (9 * c.used) m'.s ≡ take (9 * c.used) m.s
  pub long_s : length m'.s ≡ length m.s

-- the records are as they were, or there is one more
abbrev pub Grows : Rooms → tables.Mem → Counts → Rec → tables.Mem → Counts → Type 0
Grows k m c x m' d = ((recs k m' d ≡ recs k m c) × (d.records ≡ c.records)) ⊎ ((recs k m' d ≡ recs k m c ++ x ∷ []) × (d.records ≡ c.records + 1))

-- The code is the first shortage of what document 01 notes; where it is 0 the buffers hold what document 01 makes, and W's marks say what is reached; else
-- all is untouched.
pub record Noted (p : List ℕ) (np : ℕ) (k : Plan) (m : tables.Mem) (c : Counts) (start energy : ℕ) (x : Found) (m' : tables.Mem) (a : Reply) : Type 0 where
  pub code : (t : Turn) (st : St) → Holding k.rooms m c start energy t st → (l : Lent) → Lends l k.rooms
      → shortage l (noted t x (addrs p 0 np) st).needs ≡ or_else (shortage l st.needs) a.code
  pub made : (t : Turn) (st : St) → Holding k.rooms m c start energy t st → a.code ≡ 0 → clear (noted t x (addrs p 0 np) st) ≡ with_recs k.rooms m' a.counts st
  pub tells : a.code ≡ if (recorded? x (addrs p 0 np) (recs k.rooms m c)) 0 (short_of k.rooms (entry_needs c np (kept x)))
  pub holds : a.code ≡ 0 → recs k.rooms m' a.counts
      ≡ if (recorded? x (addrs p 0 np) (recs k.rooms m c)) (recs k.rooms m c) (recs k.rooms m c ++ record { start = start; to = x; path = addrs p 0 np; energy = energy } ∷ [])
  pub counts : a.code ≡ 0 → a.counts ≡ if (recorded? x (addrs p 0 np) (recs k.rooms m c)) c (counted c np (kept x))
  pub known : recorded? x (addrs p 0 np) (recs k.rooms m c) ≡ true → m' ≡ m
  pub refused : (a.code ≡ 0 → ⊥) → (m' ≡ m) × (a.counts ≡ c)
  pub grows : Grows k.rooms m c (record { start = start; to = x; path = addrs p 0 np; energy = energy }) m' a.counts
  pub tables : Tables k.size k.buckets k.rooms m' a.counts
  pub marked : (y : ℕ) → y ≤ k.size
      → mark_at m'.w k.size y ≡ remarked (ltb c.records a.counts.records && mem y (dest x)) c.records (mark_at m.w k.size y)
  pub heights : (y : ℕ) → y ≤ k.size
      → high_at m'.w k.size y ≡ heightened m.w (ltb c.records a.counts.records) x y (high_at m.w k.size y)
  pub marks : (reached : List ℕ) (since : ℕ) → since ≤ c.records → Marks k.size m.w reached since (recs k.rooms m c)
      → Marks k.size m'.w reached since (recs k.rooms m' a.counts)
  pub around : Around k m c m' a.counts
  pub used : a.counts.used ≡ c.used
  pub rows : a.counts.rows ≡ c.rows
