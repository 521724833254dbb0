-- What each function asks and promises, a record each. Assumes nothing.
use Rattle.std.specs.Prelude.{◌≡◌, Bool, true, not, ◌&&◌, ◌||◌, List, [], ◌∷◌, ◌++◌, ℕ, ◌+◌, ◌≤◌, ◌<◌, eqb, leb, length, replicate, Option, option_to_list}
use Rattle.spec.specs.Lists.{if, mem, little}
use Rattle.spec.specs.Reach.{closure}
use Rattle.spec.specs.Rooms.{longest, work_need}
use Rattle.lent.specs.Bytes.{Stored, patch}
use Rattle.layout.specs.Fields.{HIGHEST, FLAG, LAST, HEADS, mark_at, high_at, flag_at}
use Rattle.layout.specs.Parts.{rows_end, fields_place, SameRows, SameStart, SameFields, PastFields, PastList}
use Rattle.reachable.specs.Marks.{flagged, entries, wiped, remark}
use Rattle.reachable.specs.Edges.{sides_at, row_edges}

-- ---- what is asked

-- a code of n bytes is taken, and W is not short
pub record Room (n : ℕ) (w : List ℕ) : Type 0 where
  pub short : n ≤ longest
  pub room : work_need n ≤ length w

-- an address with the room that its fields have
pub record Address (n : ℕ) (w : List ℕ) (a : ℕ) : Type 0 where
  pub lent : Room n w
  pub inside : a ≤ n

-- every side of every row is an address
pub record SidesWithin (w : List ℕ) (n : ℕ) : Type 0 where
  pub within : (x t : ℕ) → x ≤ n → mem t (sides_at w x) ≡ true → t ≤ n

-- the flagged addresses have their sides among them
pub record Closed (w : List ℕ) (n : ℕ) : Type 0 where
  pub sides : (x t : ℕ) → mem x (flagged w n) ≡ true → mem t (sides_at w x) ≡ true → mem t (flagged w n) ≡ true

-- ---- what stays: all but the marks, the flags and the worklist

pub record Kept (n : ℕ) (w w' : List ℕ) : Type 0 where
  pub rows : SameRows n w w'
  pub fields : SameFields 14 HEADS n w w'
  pub spare : SameFields 1 LAST n w w'
  pub beyond : PastList n w w'
  pub long : length w' ≡ length w

-- all but those and the highest parents
pub record KeptBut (n : ℕ) (w w' : List ℕ) : Type 0 where
  pub rows : SameRows n w w'
  pub fields : SameFields 12 HEADS n w w'
  pub spare : SameFields 1 LAST n w w'
  pub beyond : PastList n w w'
  pub long : length w' ≡ length w

-- ---- marks

-- every mark, flag and field of others is 0, and all else is as it was
pub record Begun (n : ℕ) (w w' : List ℕ) : Type 0 where
  pub wipes : Stored (rows_end n) w (rows_end n) (replicate (rows_end n) 0) w'

-- a mark is set where there is none
pub record Marked (n : ℕ) (w : List ℕ) (a when : ℕ) (w' : List ℕ) : Type 0 where
  pub is : w' ≡ if (eqb (mark_at w n a) 0) (patch w (fields_place n a) (little 4 when)) w
  pub long : length w' ≡ length w

-- ---- the highest direct parents that are marked

-- the highest one of t is the block at `at`
pub record Top (n : ℕ) (w : List ℕ) (t : ℕ) : Type 0 where
  pub at : ℕ
  pub is : high_at w n t ≡ at + 1
  pub inside : at ≤ n
  pub marked : mark_at w n at ≡ 0 → ⊥
  pub side : mem t (sides_at w at) ≡ true

-- no parent of t past the one that stands there is marked; where none is, 0 stands there
pub record Highest (n : ℕ) (w : List ℕ) : Type 0 where
  pub above : (a t : ℕ) → a ≤ n → t ≤ n → (mark_at w n a ≡ 0 → ⊥) → mem t (sides_at w a) ≡ true → a + 1 ≤ high_at w n t
  pub top : (t : ℕ) → t ≤ n → (high_at w n t ≡ 0 → ⊥) → Top n w t

-- the highest parent h of an address, when a parent a of it or of another is marked
abbrev pub raised : Bool → ℕ → ℕ → ℕ
raised is a h = if (is && leb h a) (a + 1) h

-- the highest parents of some addresses are raised to a, and all else stays
pub record Raised (n : ℕ) (ts w : List ℕ) (a : ℕ) (w' : List ℕ) : Type 0 where
  pub highs : (t : ℕ) → t ≤ n → high_at w' n t ≡ raised (mem t ts) a (high_at w n t)
  pub rows : SameRows n w w'
  pub before : SameStart HIGHEST n w w'
  pub after : SameFields 2 FLAG n w w'
  pub beyond : PastFields n w w'
  pub long : length w' ≡ length w

-- ---- marks and flags together

-- an address newly flagged has the flag 1, and a mark, if it had none; all other marks and flags stay
pub record Sets (n when : ℕ) (w w' : List ℕ) : Type 0 where
  pub marks : (x : ℕ) → x ≤ n → mark_at w' n x ≡ remark when (mem x (flagged w n)) (mem x (flagged w' n)) (mark_at w n x)
  pub flags : (x : ℕ) → x ≤ n → flag_at w' n x ≡ remark 1 (mem x (flagged w n)) (mem x (flagged w' n)) (flag_at w n x)

-- a flagged address has the flag 1 and the mark 1, and any other 0 and 0
pub record Fresh (n : ℕ) (w : List ℕ) : Type 0 where
  pub marks : (x : ℕ) → x ≤ n → mark_at w n x ≡ if (mem x (flagged w n)) 1 0
  pub flags : (x : ℕ) → x ≤ n → flag_at w n x ≡ if (mem x (flagged w n)) 1 0

-- ---- the worklist

-- what following asks: the worklist has no more entries than there are flagged addresses
pub record Going (n : ℕ) (w : List ℕ) (x when count : ℕ) : Type 0 where
  pub at : Address n w x
  pub small : when < 4294967296
  pub few : count ≤ length (flagged w n)

-- a side is an address, if there is one
pub record SideWithin (n : ℕ) (side : Option ℕ) : Type 0 where
  pub within : (t : ℕ) → mem t (option_to_list side) ≡ true → t ≤ n

-- what following a side asks
pub record GoingSide (n : ℕ) (w : List ℕ) (side : Option ℕ) (when count : ℕ) : Type 0 where
  pub lent : Room n w
  pub inside : SideWithin n side
  pub small : when < 4294967296
  pub few : count ≤ length (flagged w n)

-- Some targets were taken, over what was got and what waited: those that are new wait.
pub record More (ts old todo got todo' : List ℕ) : Type 0 where
  pub all : (y : ℕ) → mem y got ≡ mem y ts || mem y old
  pub waits : (y : ℕ) → mem y todo' ≡ (mem y got && not (mem y old)) || mem y todo

-- Some targets were taken in W: those that were not flagged are now, are marked, and wait in the worklist.
pub record Took (n when : ℕ) (ts w : List ℕ) (count : ℕ) (w' : List ℕ) (count' : ℕ) : Type 0 where
  pub more : More ts (flagged w n) (entries w n count) (flagged w' n) (entries w' n count')
  pub sets : Sets n when w w'
  pub number : count' + length (flagged w n) ≡ count + length (flagged w' n)
  pub grew : length (flagged w n) ≤ length (flagged w' n)
  pub kept : Kept n w w'

-- ---- the closure

pub record Expands (n : ℕ) (w seeds : List ℕ) (when : ℕ) : Type 0 where
  pub lent : Room n w
  pub inside : (a : ℕ) → mem a seeds ≡ true → a ≤ n
  pub some : 1 ≤ when
  pub small : when < 4294967296
  pub within : SidesWithin w n
  pub closed : Closed w n
  pub high : Highest n w

-- Seeds are expanded, in whatever order they stand. The worklist's own bytes, 2 * (n + 1) of them from 40 * (n + 1) on, are scratch, and the one thing not said.
pub record Expanded (n : ℕ) (w seeds : List ℕ) (when : ℕ) (w' : List ℕ) : Type 0 where
  pub reached : (x : ℕ) → mem x (flagged w' n) ≡ mem x (closure (row_edges w n) (seeds ++ flagged w n))
  pub sets : Sets n when w w'
  pub closed : Closed w' n
  pub high : Highest n w'
  pub kept : KeptBut n w w'

-- The search's start: what is reached from 0 is flagged and marked 1, the highest parents are those, and all else of the marks, flags and others' fields is 0;
-- the worklist is scratch.
pub record Reaches (n : ℕ) (w w' : List ℕ) : Type 0 where
  pub reached : (x : ℕ) → mem x (flagged w' n) ≡ mem x (closure (row_edges w n) (0 ∷ []))
  pub fresh : Fresh n w'
  pub closed : Closed w' n
  pub high : Highest n w'
  pub kept : KeptBut n (wiped n w) w'
