-- Recording, against document 01's: what it answers, and what it leaves. Assumes nothing.
use Rattle.std.specs.Prelude.{◌≡◌, ℕ, ◌+◌, ◌^◌, ◌<◌, Bool, true, ◌&&◌, List, [], ◌∷◌, ◌++◌, ◌≢◌, nat_le}
use Rattle.spec.specs.Lists.{if, same, some?}
use Rattle.spec.specs.Search.{Found, nowhere, found, Rec, is_at, is_nowhere, kept, Room, P, S, T, R, Q, Need, St, Turn, in_use, record_nowhere, record_found}
use Rattle.spec.specs.Rooms.{Lent, room, refusal, or_else, shortage}
use Rattle.theorems.specs.Needs.{clear}
use Rattle.tables.specs.Addrs.{addrs}
use Rattle.tables.specs.Links.{Beyond}
use Rattle.tables.specs.Tables.{Mem, recs, counted, Tables, Stays}
use Rattle.tables.specs.declared.Rooms.{Rooms}
use Rattle.tables.specs.declared.Counts.{Counts}
use Rattle.tables.specs.Replies.{Reply}

-- ---- rooms by value

abbrev pub room_of : Rooms → Room → ℕ
room_of k P = k.p
room_of k S = k.s
room_of k T = k.t
room_of k R = k.r
room_of k Q = k.q

-- they are those that the lengths give
pub record Lends (l : Lent) (k : Rooms) : Type 0 where
  pub is : (x : Room) → room l x ≡ room_of k x

-- the first shortage, as `shortage` of document 01 has it
unfoldable pub short_of : Rooms → List Need → ℕ
short_of k [] = 0
short_of k (n ∷ ns) = or_else (short_of k ns) (if (nat_le n.units (room_of k n.room)) 0 (refusal n.room))

-- what a record more needs, newest first
abbrev pub entry_needs : Counts → ℕ → ℕ → List Need
entry_needs c np cells =
    record { room = S; units = c.kept + c.used + cells }
    ∷ record { room = Q; units = c.addresses + np }
    ∷ record { room = R; units = c.records + 1 }
    ∷ []

-- those numbers fit 64 bits
pub record Testing (c : Counts) (np cells : ℕ) : Type 0 where
  pub records : c.records + 1 < 2 ^ 64
  pub addresses : c.addresses + np < 2 ^ 64
  pub kept : c.kept + c.used + cells < 2 ^ 64

-- ---- what document 01 does with a path that leads somewhere, or nowhere

abbrev pub noted : Turn → Found → List ℕ → St → St
noted t nowhere path = record_nowhere t path
noted t (found u s) path = record_found t u s path

-- the buffers hold the state's records, its cells are those in use, and its energy is the given one
pub record Holding (k : Rooms) (m : Mem) (c : Counts) (start energy : ℕ) (t : Turn) (st : St) : Type 0 where
  pub recs : st.recs ≡ recs k m c
  pub cells : in_use t st ≡ c.kept + c.used
  pub turn : t.start ≡ start
  pub counted : st.energy ≡ energy

-- the state with other records, and no needs noted
abbrev pub with_recs : Rooms → Mem → Counts → St → St
with_recs k m c st = record { recs = recs k m c; energy = st.energy; met = st.met; needs = [] }

-- ---- the same without a state of document 01

-- the path is so recorded already
abbrev pub recorded? : Found → List ℕ → List Rec → Bool
recorded? nowhere path = some? (λ (r : Rec). is_nowhere r.to && same path r.path)
recorded? (found u s) path = some? (λ (r : Rec). is_at u r.to && same path r.path)

-- The code is the first shortage of what document 01 notes; where it is 0 the buffers hold what document 01 makes, and else they are untouched.
pub record Recorded (p : List ℕ) (np n buckets : ℕ) (k : Rooms) (m : Mem) (c : Counts) (start energy : ℕ) (x : Found) (m' : Mem) (a : Reply) : Type 0 where
  pub code : (t : Turn) (st : St) → Holding k m c start energy t st → (l : Lent) → Lends l k
      → shortage l (noted t x (addrs p 0 np) st).needs ≡ or_else (shortage l st.needs) a.code
  pub made : (t : Turn) (st : St) → Holding k m c start energy t st → a.code ≡ 0 → clear (noted t x (addrs p 0 np) st) ≡ with_recs k m' a.counts st
  pub tells : a.code ≡ if (recorded? x (addrs p 0 np) (recs k m c)) 0 (short_of k (entry_needs c np (kept x)))
  pub holds : a.code ≡ 0 → recs k m' a.counts
      ≡ if (recorded? x (addrs p 0 np) (recs k m c)) (recs k m c) (recs k m c ++ record { start = start; to = x; path = addrs p 0 np; energy = energy } ∷ [])
  pub counts : a.code ≡ 0 → a.counts ≡ if (recorded? x (addrs p 0 np) (recs k m c)) c (counted c np (kept x))
  pub known : recorded? x (addrs p 0 np) (recs k m c) ≡ true → m' ≡ m
  pub refused : (a.code ≢ 0) → (m' ≡ m) × (a.counts ≡ c)
  pub tables : Tables n buckets k m' a.counts
  pub stays : Stays k c a.counts m.r m.q m.s m'.r m'.q m'.s
  pub beyond : Beyond n buckets m.w m'.w
