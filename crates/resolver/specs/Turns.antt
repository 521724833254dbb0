-- Turns, rounds and the search. Assumes nothing.
use Rattle.std.specs.Prelude.{Result, Ok, Err, ◌≡◌, ℕ, zero, suc, ◌+◌, ◌-◌, ◌*◌, ◌≤◌, ◌<◌, min, List, [], ◌∷◌, ◌++◌, ◌⊎◌, true, not, ◌&&◌, ◌||◌, eqb, ltb, length, take, drop}
use Rattle.spec.specs.Opcodes.{in_mode}
use Rattle.spec.specs.Lists.{if, mem, little}
use Rattle.spec.specs.Search as search
use Rattle.spec.specs.Search.{Node, Taker, takers, direct, Rec, dests, St, begin, turn_for, turn, round, rounds, reached_by}
use Rattle.spec.specs.Reach.{closure}
use Rattle.spec.specs.Answer.{prepared}
use Rattle.spec.specs.Rooms.{Lent, units, shortage, longest, work_need}
use Rattle.laws.specs.Lists.{In}
use Rattle.lent.specs.Bytes.{Stored}
use Rattle.layout.specs.Fields.{mark_at}
use Rattle.layout.specs.Marks.{NOWHERE}
use Rattle.layout.specs.Parts.{buckets_of, starts_place, SameRows}
use Rattle.layout.specs.Records.{record_place, to_at}
use Rattle.layout.specs.Rows.{position_at}
use Rattle.layout.specs.Buffers.{Mem}
use Rattle.exec.specs.Modes.{mode_of}
use Rattle.exec.specs.declared.mode.Mode.{Mode}
use Rattle.tables.specs.Tables.{Tables}
use Rattle.tables.specs.Mets.{Remembers}
use Rattle.tables.specs.declared.Rooms.{Rooms}
use Rattle.parents.specs.Promises.{Known, Number}
use Rattle.reachable.specs.Marks.{flagged, marked_by}
use Rattle.reachable.specs.Edges.{row_edges}
use Rattle.reachable.specs.Promises.{Room, SidesWithin, Closed, KeptBut, Highest}
use Rattle.steps.specs.Paths.{OnPath, Counted}
use Rattle.steps.specs.Sound.{SoundRecs}
use Rattle.steps.specs.Lands.{Marks}
use Rattle.steps.specs.Runs.{tabled, recs_in, st_of, Did}
use Rattle.steps.specs.Plans.{mode_in}
use Rattle.steps.specs.declared.plan.Plan.{Plan}
use Rattle.steps.specs.declared.Level.{Level}
use Rattle.steps.specs.declared.own.StateAt.{StateAt}
use Rattle.refusal.specs.declared.Shortage.{Shortage}
use Rattle.refusal.specs.Numbers.{short_number}
use Rattle.steps.specs.declared.Run.{Run}
use Rattle.steps.specs.Goings.{Gone, under_way}
use Rattle.enter.specs.Fits.{Planned, prepared_in}

-- ---- between turns

-- nothing is in use but the records
pub record Idle (code : List ℕ) (k : Plan) (reached : List ℕ) (since : ℕ) (m : Mem) (o : Gone) : Type 0 where
  pub planned : Planned code k m
  pub tables : Tables k.size k.buckets k.rooms (tabled m) o.counts
  pub remembers : Remembers k.shelves k.rooms m.t m.s o.counts
  pub known : Known (mode_in k) code m.w k.takers
  pub began : since ≤ o.counts.records
  pub marks : Marks k.size m.w reached since (recs_in k m o.counts)
  pub sound : SoundRecs k.size (recs_in k m o.counts)
  pub counts : OnPath k.size m.w []
  pub unused : o.counts.used ≡ 0
  pub rowless : o.counts.rows ≡ 0
  pub within : SidesWithin m.w k.size
  pub closed : Closed m.w k.size
  pub unrefused : o.code ≡ 0
  pub energy : o.energy ≤ k.limit + 256
  pub dests_in : (a : ℕ) → mem a (dests (take since (recs_in k m o.counts))) ≡ true → mem a reached ≡ true

-- what a function that does f leaves between turns: the flags, and the older records, stay
pub record Passed (code : List ℕ) (k : Plan) (reached : List ℕ) (since : ℕ) (f : St → St) (m : Mem) (o : Gone) (m' : Mem) (d : Gone) : Type 0 where
  pub did : Did k.rooms f (st_of k m o) d.code (st_of k m' d)
  pub idle : d.code ≡ 0 → Idle code k reached since m' d
  pub flags : d.code ≡ 0 → flagged m'.w k.size ≡ flagged m.w k.size
  pub rows : d.code ≡ 0 → SameRows k.size m.w m'.w
  pub beyond : d.code ≡ 0 → drop k.end m'.w ≡ drop k.end m.w
  pub older : d.code ≡ 0 → take o.counts.records (recs_in k m' d.counts) ≡ recs_in k m o.counts

-- ---- a turn

abbrev pub begun_with : Gone → ℕ → Gone
begun_with o cells =
    record {
      code = o.code;
      energy = o.energy;
      counts = record { records = o.counts.records; addresses = o.counts.addresses; kept = o.counts.kept; used = cells; rows = 0 };
    }

abbrev pub ended_with : Gone → Gone
ended_with o = begun_with o 0

-- the block's own state fits into S, its start is an address, and none is counted
pub record Places (w p s : List ℕ) (k : Plan) (start : ℕ) (own : StateAt) : Type 0 where
  pub lent : Room k.size w
  pub inside : start ≤ k.size
  pub counts : OnPath k.size w []
  pub lent_p : 2 ≤ length p
  pub lent_s : 9 * own.n ≤ length s
  pub lent_w : own.at + 9 * own.n ≤ length w

pub record Placed (w p s : List ℕ) (k : Plan) (start : ℕ) (own : StateAt) (w' p' s' : List ℕ) (l : Level) : Type 0 where
  pub copied : Stored (9 * own.n) s 0 (take (9 * own.n) (drop own.at w)) s'
  pub put : Stored 2 p 0 (little 2 start) p'
  pub counted : Counted k.size w p' 1 w'
  pub reads : Number l.position (position_at w' start) 4
  pub is : l ≡ record { np = 1; position = l.position; from = 0; cells = own.n; left = 255 }

-- the block at `start` takes turns
pub record TurnAsks (code : List ℕ) (k : Plan) (start : ℕ) (m : Mem) (o : Gone) : Type 0 where
  pub reached : List ℕ
  pub since : ℕ
  pub idle : Idle code k reached since m o
  pub taker : Taker
  pub takes : In taker (takers (prepared_in k code))
  pub is : taker.start ≡ start
  pub energy : o.energy < k.limit

abbrev pub Turned : List ℕ → Plan → ℕ → Mem → Gone → Mem → Gone → Type 0
Turned code k start m o m' d =
    (reached : List ℕ) (since : ℕ) → Idle code k reached since m o → (x : Taker) → In x (takers (prepared_in k code)) → x.start ≡ start
    → Passed code k reached since (turn k.limit (turn_for (direct (prepared_in k code)) reached x) x.position) m o m' d

-- ---- a round

pub record RoundAsks (code : List ℕ) (k : Plan) (m : Mem) (o : Gone) : Type 0 where
  pub reached : List ℕ
  pub idle : Idle code k reached o.counts.records m o

abbrev pub Rounded : List ℕ → Plan → Mem → Gone → Mem → Gone → Type 0
Rounded code k m o m' d =
    (reached : List ℕ) → Idle code k reached o.counts.records m o
    → Passed code k reached o.counts.records (round k.limit (direct (prepared_in k code)) reached (takers (prepared_in k code))) m o m' d

-- ---- what is reached when a round begins

pub record HandsOver (n : ℕ) (w r : List ℕ) (since records : ℕ) : Type 0 where
  pub lent : Room n w
  pub within : SidesWithin w n
  pub closed : Closed w n
  pub high : Highest n w
  pub order : since ≤ records
  pub in_r : record_place records ≤ length r
  pub few : records ≤ 1073741824
  pub goes : (i : ℕ) → i < records → (to_at r i ≡ NOWHERE) ⊎ (to_at r i ≤ n)

-- the destinations of the records from i on, up to m
unfoldable pub dests_from : List ℕ → ℕ → ℕ → List ℕ
dests_from r i zero = []
dests_from r i (suc m) = if (eqb (to_at r i) NOWHERE) (dests_from r (suc i) m) (to_at r i ∷ dests_from r (suc i) m)

pub record HandedAll (n : ℕ) (w r : List ℕ) (since records : ℕ) (w' : List ℕ) : Type 0 where
  pub reached : (x : ℕ) → mem x (flagged w' n) ≡ mem x (closure (row_edges w n) (dests_from r since (records - since) ++ flagged w n))
  pub marks : (x : ℕ) → x ≤ n → mark_at w' n x ≡ if (mem x (flagged w' n) && not (mem x (flagged w n)) && eqb (mark_at w n x) 0) (records + 1) (mark_at w n x)
  pub closed : Closed w' n
  pub high : Highest n w'
  pub kept : KeptBut n w w'

-- ---- rounds

-- between rounds: what the first `since` records lead to is flagged, and counts as reached
pub record Between (code : List ℕ) (k : Plan) (since : ℕ) (m : Mem) (o : Gone) : Type 0 where
  pub idle : Idle code k (reached_by (prepared_in k code) (take since (recs_in k m o.counts))) since m o
  pub flags : (x : ℕ) → mem x (flagged m.w k.size) ≡ mem x (reached_by (prepared_in k code) (take since (recs_in k m o.counts)))

-- How many records there were when the last of document 01's `rounds` began; where none takes place, those when the round before began. Each step is that
-- of `rounds`.
unfoldable pub last_since : ℕ → ℕ → List Node → ℕ → St → ℕ
last_since zero limit ns since s = since
last_since (suc n) limit ns since s =
    let t = round limit (direct ns) (reached_by ns s.recs) (takers ns) s in
    let more = last_since n limit ns (length s.recs) t in
    let this = if (eqb (length t.recs) (length s.recs)) (length s.recs) more in
    if (ltb s.energy limit) this since

-- The marks at the end: an address is reached if it was when the last round began, with `since` records, or if a record leads there.
abbrev pub Reached : List Node → ℕ → List ℕ → ℕ → ℕ → List Rec → Type 0
Reached ns n w since records recs = (a : ℕ) → a ≤ n → marked_by w n a (records + 1) ≡ mem a (reached_by ns (take since recs)) || mem a (dests recs)

-- the code is the first shortage of all rounds, and where it is 0 the buffers hold what they make
pub record Rounds (code : List ℕ) (k : Plan) (m : Mem) (o : Gone) (m' : Mem) (d : Gone) : Type 0 where
  pub did : Did k.rooms (rounds 128 k.limit (prepared_in k code)) (st_of k m o) d.code (st_of k m' d)
  pub between : d.code ≡ 0 → Between code k (last_since 128 k.limit (prepared_in k code) 0 (st_of k m o)) m' d
  pub rows : d.code ≡ 0 → SameRows k.size m.w m'.w
  pub beyond : d.code ≡ 0 → drop k.end m'.w ≡ drop k.end m.w

-- ---- the search

abbrev pub rooms_of : List ℕ → List ℕ → List ℕ → List ℕ → List ℕ → Rooms
rooms_of p s t r q = record { p = units (length p) 2; s = units (length s) 9; t = units (length t) 32; r = units (length r) 32; q = units (length q) 2 }

-- how many buckets the records have: no more than R has rows, and one, of those that W's part holds
abbrev pub buckets_for : ℕ → ℕ → ℕ
buckets_for n rows = min (buckets_of n) (rows + 1)

abbrev pub plan_of : Mode → ℕ → ℕ → ℕ → Rooms → Plan
plan_of mode n limit many rooms =
    record {
      size = n;
      end = starts_place n;
      takers = many;
      buckets = buckets_for n rooms.r;
      shelves = min rooms.t 0x10000;
      limit = limit;
      rooms = rooms;
      mode = mode_of mode;
    }

abbrev pub plan : Mode → List ℕ → ℕ → ℕ → Mem → Plan
plan mode code limit many m = plan_of mode (length code) limit many (rooms_of m.p m.s m.t m.r m.q)

-- what `search` answers
abbrev pub outcome_of : Result Run Shortage → Gone
outcome_of (Ok run) = under_way run
outcome_of (Err short) = record { code = short_number short; energy = 0; counts = record { records = 0; addresses = 0; kept = 0; used = 0; rows = 0 } }

abbrev pub begun_run : Gone
begun_run = record { code = 0; energy = 0; counts = record { records = 0; addresses = 0; kept = 0; used = 0; rows = 0 } }

-- the rows are prepared, and W is not short
pub record SearchAsks (mode : Mode) (code w : List ℕ) (limit many : ℕ) : Type 0 where
  pub short : length code ≤ longest
  pub limited : limit ≤ 500000
  pub lent : work_need (length code) ≤ length w
  pub known : Known (mode_of mode) code w many

-- The code is the number of the first shortage of document 01's search, 0 if there is none. Where it is 0, the records, with their paths, destinations,
-- states and order, the energy and the addresses marked as reached are those of document 01's search, nothing but the records is in use, and W's rows and
-- the bytes that a search does not need stay.
pub record Searched (mode : Mode) (code : List ℕ) (limit many : ℕ) (m m' : Mem) (d : Gone) : Type 0 where
  pub short : (l : Lent) → l.p ≡ length m.p → l.s ≡ length m.s → l.t ≡ length m.t → l.r ≡ length m.r → l.q ≡ length m.q
      → d.code ≡ shortage l (search.search limit (prepared (in_mode (mode_of mode)) code)).needs
  pub recs : d.code ≡ 0 → recs_in (plan mode code limit many m) m' d.counts ≡ (search.search limit (prepared (in_mode (mode_of mode)) code)).recs
  pub energy : d.code ≡ 0 → d.energy ≡ (search.search limit (prepared (in_mode (mode_of mode)) code)).energy
  pub energy_most : d.code ≡ 0 → d.energy ≤ limit + 256
  pub between : d.code ≡ 0 → Between code (plan mode code limit many m) (last_since 128 limit (prepared (in_mode (mode_of mode)) code) 0 begin) m' d
  pub rows : d.code ≡ 0 → SameRows (length code) m.w m'.w
  pub beyond : d.code ≡ 0 → drop (starts_place (length code)) m'.w ≡ drop (starts_place (length code)) m.w
  pub reached : d.code ≡ 0
      → Reached (prepared (in_mode (mode_of mode)) code) (length code) m'.w (last_since 128 limit (prepared (in_mode (mode_of mode)) code) 0 begin) d.counts.records
      (recs_in (plan mode code limit many m) m' d.counts)
