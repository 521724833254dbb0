-- What each function asks and promises, a record each. Assumes nothing.
use Rattle.std.specs.Prelude.{◌≡◌, Bool, Option, Some, List, ◌++◌, ℕ, ◌+◌, ◌*◌, ◌^◌, ◌≤◌, ◌<◌, leb, length, drop, get_or}
use Rattle.spec.specs.Search.{Rec}
use Rattle.spec.specs.Json.{text}
use Rattle.layout.specs.Rows.{to_of, other_of}
use Rattle.layout.specs.declared.row.BlockType.{BlockType}
use Rattle.entries.specs.Rows.{steps_of}
use Rattle.entries.specs.Promises.{RowIn, Ends, map_of}

-- an address, if it is one
abbrev pub Small : Option ℕ → Type 0
Small goal = (to : ℕ) → goal ≡ Some to → to < 65536

-- row i, and so many bytes more than its path's can be counted
pub record PutsWay (r q : List ℕ) (i at more : ℕ) : Type 0 where
  pub row : RowIn r q i
  pub far : at + (more + 6 * steps_of r i) ≤ 2 ^ 62

-- the sides of a type are addresses
pub record Sides (t : BlockType) : Type 0 where
  pub to : to_of t < 65536
  pub other : other_of t < 65536

-- ---- the whole

-- a list of bytes, as what any slice of them holds is, by its type
pub record IsBytes (b : List ℕ) : Type 0 where
  pub small : (i : ℕ) → get_or b i 0 < 256

-- whether the text has at most so many bytes
pub record FitsRoom (w r q : List ℕ) (n m room : ℕ) (b : Bool) : Type 0 where
  pub is : (mode : ℕ) (code : List ℕ) (recs : List Rec) (energy choice : ℕ) → Ends w r q n m mode code recs → b ≡ leb (length (text (map_of mode code recs energy choice))) room

-- the text stands at the buffer's start, and all behind it as it was
pub record Written (w r q : List ℕ) (n m : ℕ) (out out' : List ℕ) (end : ℕ) : Type 0 where
  pub answer : (mode : ℕ) (code : List ℕ) (recs : List Rec) (energy choice : ℕ) → Ends w r q n m mode code recs
      → (end ≡ length (text (map_of mode code recs energy choice))) × (out' ≡ text (map_of mode code recs energy choice) ++ drop (length (text (map_of mode code recs energy choice))) out)
  pub long : length out' ≡ length out
