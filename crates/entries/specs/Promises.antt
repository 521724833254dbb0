-- What each function asks and promises, a record each. Assumes nothing.
use Rattle.std.specs.Prelude.{◌≡◌, Bool, Option, Some, None, List, [], ◌∷◌, ◌++◌, ℕ, suc, ◌+◌, ◌*◌, ◌^◌, ◌≤◌, ◌<◌, eqb, leb, length, drop}
use Rattle.spec.specs.Opcodes.{in_mode}
use Rattle.spec.specs.Lists.{keep}
use Rattle.spec.specs.Search.{Rec}
use Rattle.spec.specs.Ending.{finals, pruned}
use Rattle.spec.specs.Answer.{prepared}
use Rattle.spec.specs.Rooms.{units, longest}
use Rattle.spec.specs.Entries.{Map, bytes}
use Rattle.layout.specs.Edges.{end_at, goal_of}
use Rattle.layout.specs.Parts.{ROW, row_place}
use Rattle.layout.specs.Records.{RECORD, record_place}
use Rattle.layout.specs.Rows.{tag_at, type_at}
use Rattle.layout.specs.declared.row.BlockType.{BlockType}
use Rattle.initial.specs.Rows.{Listed}
use Rattle.reachable.specs.Marks.{flagged}
use Rattle.reachable.specs.Promises.{Room}
use Rattle.reachable.specs.Pruning.{Chains}
use Rattle.graph.specs.Border.{Finished}
use Rattle.entries.specs.declared.found.Span.{Span}
use Rattle.entries.specs.declared.found.Found.{Found}
use Rattle.entries.specs.Families.{led_to}
use Rattle.entries.specs.Rows.{steps_of, chosen, listed, kept, kept_below}

-- ---- rows of R

-- where the first i paths end
pub record PathsEnd (r : List ℕ) (i e : ℕ) : Type 0 where
  pub is : e ≡ end_at r i
  pub small : e < 2 ^ 32

-- row i lies within R, and its path within Q
pub record RowIn (r q : List ℕ) (i : ℕ) : Type 0 where
  pub in_r : record_place i + RECORD ≤ length r
  pub rises : end_at r i ≤ end_at r (suc i)
  pub in_q : 2 * end_at r (suc i) ≤ length q

-- t is the destination of row i, if it has one
pub record GoalOf (r : List ℕ) (i : ℕ) (t : Option ℕ) : Type 0 where
  pub is : t ≡ led_to (goal_of r i)
  pub small : (to : ℕ) → t ≡ Some to → to < 65536

-- where the path of row i stands
pub record PathOf (r : List ℕ) (i : ℕ) (s : Span) : Type 0 where
  pub begins : s.from ≡ end_at r i
  pub steps : s.steps ≡ steps_of r i
  pub small : s.steps < 2 ^ 32

-- row i, and so many bytes more than its path's can be counted
pub record PutsRow (r q : List ℕ) (i at more : ℕ) : Type 0 where
  pub row : RowIn r q i
  pub far : at + (more + 2 * steps_of r i) ≤ 2 ^ 62

pub record RowsIn (r q : List ℕ) (m : ℕ) : Type 0 where
  pub each : (i : ℕ) → i < m → RowIn r q i
  pub few : m ≤ 2 ^ 30
  pub small : end_at r m < 2 ^ 32

-- ---- the rows of a block, along their links

pub record Linked (n m : ℕ) (w r : List ℕ) : Type 0 where
  pub lent : Room n w
  pub in_r : record_place m ≤ length r
  pub few : m ≤ 2 ^ 30
  pub places : Chains n m 0 r w r 0

pub record LinkedAt (n m : ℕ) (w r : List ℕ) (a : ℕ) : Type 0 where
  pub linked : Linked n m w r
  pub inside : a ≤ n

-- so many rows more are listed
pub record Lists (r : List ℕ) (tag : ℕ) (is : List ℕ) (count c : ℕ) : Type 0 where
  pub more : c ≡ count + length (keep (listed r tag) is)

pub record Counted (r : List ℕ) (m a tag c : ℕ) : Type 0 where
  pub count : c ≡ length (chosen r m a tag)
  pub few : c ≤ m

-- ---- blocks

-- the type of the block at a, whose row is one
pub record BlockOf (w : List ℕ) (a : ℕ) (t : BlockType) : Type 0 where
  pub is : t ≡ type_at w a
  pub some : tag_at w a ≡ 0 → ⊥
  pub inside : row_place a + ROW ≤ length w

pub record PutsBlocks (n m : ℕ) (w r q : List ℕ) (at : ℕ) : Type 0 where
  pub linked : Linked n m w r
  pub rows : RowsIn r q m
  pub far : at ≤ 2 ^ 60

pub record PutsBlock (n m : ℕ) (w r q : List ℕ) (a at : ℕ) : Type 0 where
  pub blocks : PutsBlocks n m w r q at
  pub inside : a ≤ n

-- so many blocks more are kept
pub record Keeps (w : List ℕ) (n : ℕ) (a count c : ℕ) : Type 0 where
  pub more : c ≡ count + length (keep (kept w n) (a ∷ []))

pub record CountedBlocks (w : List ℕ) (n c : ℕ) : Type 0 where
  pub count : c ≡ length (kept_below w n (n + 1))
  pub few : c ≤ n + 1

-- ---- the whole

-- the mode, the code and the records for which W, R and Q stand as they do at the end
pub record Ends (w r q : List ℕ) (n m mode : ℕ) (code : List ℕ) (recs : List Rec) : Type 0 where
  pub finished : Finished mode code recs w r q
  pub size : length code ≡ n
  pub count : length recs ≡ m

pub record Writes (w r q : List ℕ) (n m energy : ℕ) : Type 0 where
  pub mode : ℕ
  pub code : List ℕ
  pub recs : List Rec
  pub ends : Ends w r q n m mode code recs
  pub short : n ≤ longest
  pub small : energy < 2 ^ 32

-- all that is asked of what the search left
pub record Holds (f : Found) (energy : ℕ) : Type 0 where
  pub writes : Writes f.w.now f.r.now f.q.now f.size f.rows energy
  pub flags : f.flags ≡ length (flagged f.w.now f.size)
  pub listed : Listed f.size f.w.now f.blocks

abbrev pub map_of : ℕ → List ℕ → List Rec → ℕ → ℕ → Map
map_of mode code recs energy choice =
    record { size = length code; energy = energy; blocks = pruned (finals (prepared (in_mode mode) code) recs); recs = recs; numbered = eqb choice 0 }

-- whether the answer has at most so many bytes, whatever energy its head tells
pub record FitsRoom (w r q : List ℕ) (n m choice room : ℕ) (b : Bool) : Type 0 where
  pub is : (mode : ℕ) (code : List ℕ) (recs : List Rec) (energy : ℕ) → Ends w r q n m mode code recs → b ≡ leb (length (bytes (map_of mode code recs energy choice))) room

-- the bytes, where there is room for them, else nothing
pub record Answered (bs out out' : List ℕ) (end : Option ℕ) : Type 0 where
  pub fits : length bs ≤ units (length out) 1 → (end ≡ Some (length bs)) × (out' ≡ bs ++ drop (length bs) out)
  pub short : units (length out) 1 < length bs → (end ≡ None) × (out' ≡ out)

pub record Written (w r q : List ℕ) (n m energy choice : ℕ) (out out' : List ℕ) (end : Option ℕ) : Type 0 where
  pub answer : (mode : ℕ) (code : List ℕ) (recs : List Rec) → Ends w r q n m mode code recs → Answered (bytes (map_of mode code recs energy choice)) out out' end
  pub long : length out' ≡ length out
