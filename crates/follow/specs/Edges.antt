-- The index of edges: shelves of entries, how one is found there, and how one comes there. Assumes nothing.
use Rattle.std.specs.Prelude.{◌≡◌, ℕ, ◌+◌, ◌*◌, ◌<◌, ◌≤◌, List, ◌∷◌, ◌++◌, length, Option, Some, None}
use Rattle.spec.specs.Ending.{Final}
use Rattle.spec.specs.Counting.{distinct}
use Rattle.spec.specs.Follow.{outgoing}
use Rattle.lent.specs.Bytes.{num_at}
use Rattle.follow.specs.Blocks.{finals_at, named_by}
use Rattle.follow.specs.Places.{place_in}
use Rattle.follow.specs.Finding.{slots_of, Placed, Table}
use Rattle.follow.specs.declared.block.Named.{Named}
use Rattle.follow.specs.declared.find.Counted.{Counted}

-- 16 entries behind the rows
pub record ShelfAt (long rows shelf : ℕ) : Type 0 where
  pub first : ℕ
  pub is : shelf ≡ 16 * rows + 24 * first
  pub fits : shelf + 384 ≤ long

abbrev pub shelf_in : ℕ → ℕ → Option ℕ → Type 0
shelf_in long rows (Some shelf) = ShelfAt long rows shelf
shelf_in long rows None = long < 16 * rows + 384

-- ---- an edge that is looked up

-- an entry of the edge
pub record EntryOf (work : List ℕ) (at key q n : ℕ) : Type 0 where
  pub key_is : num_at 8 work at ≡ key
  pub to_is : num_at 8 work (at + 8) ≡ q
  pub place_is : num_at 8 work (at + 16) ≡ n

pub record OnShelf (work : List ℕ) (shelf key q n : ℕ) : Type 0 where
  pub i : ℕ
  pub entry : EntryOf work (shelf + 24 * i) key q n

-- none tells nothing; an entry has one more than the place
pub record Looked (work : List ℕ) (shelf key q : ℕ) (r : Option ℕ) : Type 0 where
  pub found : {n : ℕ} → r ≡ Some n → OnShelf work shelf key q (n + 1)

pub record KnownAt (work : List ℕ) (rows : Option ℕ) (key q n : ℕ) : Type 0 where
  pub many : ℕ
  pub live : rows ≡ Some many
  pub on : OnShelf work (16 * many) key q (n + 1)

pub record Known (work : List ℕ) (rows : Option ℕ) (key q : ℕ) (r : Option ℕ) : Type 0 where
  pub found : {n : ℕ} → r ≡ Some n → KnownAt work rows key q n

pub record PlaceSo (b : List ℕ) (k : Counted) (q : ℕ) (r : Option ℕ) : Type 0 where
  pub so : (f : Final) → Placed b f k.block k.slot → place_in q (outgoing f) r

-- ---- an edge that is put

pub record Entered (work : List ℕ) (at key to n : ℕ) (work' : List ℕ) : Type 0 where
  pub entry : EntryOf work' at key to (n + 1)
  pub apart : (i : ℕ) → (i < at + 24 → i + 8 ≤ at) → num_at 8 work' i ≡ num_at 8 work i
  pub kept : length work' ≡ length work

pub data Inserted (work : List ℕ) (shelf key to n : ℕ) : List ℕ → Type 0 where
  no_free : Inserted work shelf key to n work
  put_at : (i : ℕ) {work' : List ℕ} → Entered work (shelf + 24 * i) key to n work' → Inserted work shelf key to n work'

pub data Kept (work : List ℕ) (rows key to n : ℕ) : List ℕ → Type 0 where
  not_kept : Kept work rows key to n work
  kept_at : (i : ℕ) {work' : List ℕ} → Entered work (16 * rows + 24 * i) key to n work' → Kept work rows key to n work'

-- the destinations are those of the block whose count stands one before the key
pub record Owned (b : List ℕ) (key : ℕ) (c : Named) : Type 0 where
  pub slot : ℕ
  pub key_is : key ≡ slot + 1
  pub out : (before : List Final) (f : Final) (after : List Final) → finals_at b 0 ≡ before ++ f ∷ after → slot ≡ slots_of before → distinct (named_by b c) ≡ outgoing f

pub record Linked (b work : List ℕ) (rows : ℕ) (c : Named) (work' : List ℕ) (r : ℕ) : Type 0 where
  pub many : r ≡ length (distinct (named_by b c))
  pub table : Table b work' rows
  pub rows_kept : (i : ℕ) → i + 8 ≤ 16 * rows → num_at 8 work' i ≡ num_at 8 work i
  pub kept : length work' ≡ length work
