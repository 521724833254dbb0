-- What each function asks and promises, a record each. Assumes nothing.
use Rattle.std.specs.Prelude.{◌≡◌, List, map, ℕ, ◌+◌, ◌-◌, ◌*◌, ◌^◌, ◌≤◌, ◌<◌, length, take, drop, replicate}
use Rattle.spec.specs.Opcodes.{in_mode}
use Rattle.spec.specs.Search.{Node, Rec, dest}
use Rattle.spec.specs.Answer.{prepared}
use Rattle.laws.specs.Lists.{In}
use Rattle.lent.specs.Bytes.{num_at}
use Rattle.layout.specs.Edges.{E-TO, E-WITNESS, E-OWN, E-ENDS}
use Rattle.layout.specs.Fields.{note_at, COUNT, LAST}
use Rattle.layout.specs.Parts.{ROW, row_place, SameRows, fields_place, PastRows, PastFields, PastList}
use Rattle.layout.specs.Records.{RECORD, record_place, R-ENDS, start_at, to_at}
use Rattle.layout.specs.Rows.{tag_at}
use Rattle.initial.specs.Rows.{row_blocks, blocks_at}
use Rattle.tables.specs.Records.{recs_of, Row}
use Rattle.reachable.specs.Marks.{flagged}
use Rattle.reachable.specs.Promises.{Room, Fresh}
use Rattle.reachable.specs.Pruning.{Chains}
use Rattle.graph.specs.Border.{Finished}
use Rattle.graph.specs.Notes.{stepped, note_of, merged_by, merged_block, edge_to, merged_row}

-- ---- notes

-- record i stands in R, and starts at an address
pub record Starts (n : ℕ) (r : List ℕ) (i : ℕ) : Type 0 where
  pub in_r : record_place i + RECORD ≤ length r
  pub start : start_at r i ≤ n

-- the rows of W stay, and what is past the fields of the addresses
pub record RowsKept (n : ℕ) (w w' : List ℕ) : Type 0 where
  pub rows : SameRows n w w'
  pub beyond : PastFields n w w'
  pub long : length w' ≡ length w

pub record NotedRow (n : ℕ) (w r : List ℕ) (i : ℕ) (w' : List ℕ) : Type 0 where
  pub notes : (a : ℕ) → a ≤ n → note_at w' n a ≡ stepped r i a (note_at w n a)
  pub kept : RowsKept n w w'

pub record Notes (n m : ℕ) (w r : List ℕ) : Type 0 where
  pub lent : Room n w
  pub each : (i : ℕ) → i < m → Starts n r i
  pub none : (a : ℕ) → a ≤ n → note_at w n a ≡ 0

pub record Noted (n m : ℕ) (w r w' : List ℕ) : Type 0 where
  pub notes : (a : ℕ) → a ≤ n → note_at w' n a ≡ note_of r a m
  pub kept : RowsKept n w w'

-- ---- the merge

pub record MergedRow (n : ℕ) (w : List ℕ) (a : ℕ) (w' : List ℕ) : Type 0 where
  pub same : row_blocks w' a ≡ map (merged_by n (note_at w n a)) (row_blocks w a)
  pub bytes : take ROW (drop (row_place a) w') ≡ merged_row n (note_at w n a) w a
  pub before : take (row_place a) w' ≡ take (row_place a) w
  pub past : drop (row_place (a + 1)) w' ≡ drop (row_place (a + 1)) w
  pub long : length w' ≡ length w

-- the notes of m records stand in W
pub record Merges (n m : ℕ) (w r : List ℕ) : Type 0 where
  pub lent : Room n w
  pub each : (i : ℕ) → i < m → Starts n r i
  pub notes : (a : ℕ) → a ≤ n → note_at w n a ≡ note_of r a m

-- every block is merged by the note that stands in W, and by that of the records
pub record Merged (n : ℕ) (w w' : List ℕ) : Type 0 where
  pub blocks : blocks_at w' n ≡ map (merged_block n (note_at w n)) (blocks_at w n)
  pub bytes : (a : ℕ) → a ≤ n → take ROW (drop (row_place a) w') ≡ merged_row n (note_at w n a) w a
  pub beyond : PastRows n w w'
  pub long : length w' ≡ length w

pub record MergedAll (n m : ℕ) (w r w' : List ℕ) : Type 0 where
  pub blocks : blocks_at w' n ≡ map (merged_block n (λ (a : ℕ). note_of r a m)) (blocks_at w n)
  pub bytes : (a : ℕ) → a ≤ n → take ROW (drop (row_place a) w') ≡ merged_row n (note_of r a m) w a
  pub beyond : PastFields n w w'
  pub long : length w' ≡ length w

-- ---- the rows of edges

-- v is the destination of an edge from a
pub record EdgeIs (w : List ℕ) (a to v : ℕ) : Type 0 where
  pub is : v ≡ edge_to (tag_at w a) to
  pub small : v < 65536

-- the fields of row i are stored, and its start and its last twelve bytes stay
pub record EdgePut (r : List ℕ) (i to last own end : ℕ) (r' : List ℕ) : Type 0 where
  pub start : num_at 2 r' (record_place i) ≡ start_at r i
  pub edge : num_at 2 r' (record_place i + E-TO) ≡ to
  pub witness : num_at 2 r' (record_place i + E-WITNESS) ≡ last
  pub leads : num_at 2 r' (record_place i + E-OWN) ≡ own
  pub ends : num_at 4 r' (record_place i + E-ENDS) ≡ end
  pub rest : take 12 (drop (record_place i + 20) r') ≡ take 12 (drop (record_place i + 20) r)
  pub before : take (record_place i) r' ≡ take (record_place i) r
  pub past : drop (record_place (i + 1)) r' ≡ drop (record_place (i + 1)) r
  pub long : length r' ≡ length r

pub record RewritesRow (w r q : List ℕ) (i : ℕ) : Type 0 where
  pub in_r : record_place i + RECORD ≤ length r
  pub in_w : row_place (start_at r i) + ROW ≤ length w
  pub some : 0 < num_at 4 r (record_place i + R-ENDS)
  pub in_q : 2 * num_at 4 r (record_place i + R-ENDS) ≤ length q

-- row i of r', against that of r
pub record EdgeFrom (w r q : List ℕ) (i : ℕ) (r' : List ℕ) : Type 0 where
  pub start : num_at 2 r' (record_place i) ≡ start_at r i
  pub edge : num_at 2 r' (record_place i + E-TO) ≡ edge_to (tag_at w (start_at r i)) (to_at r i)
  pub last : num_at 2 r' (record_place i + E-WITNESS) ≡ num_at 2 q (2 * (num_at 4 r (record_place i + R-ENDS) - 1))
  pub to : num_at 2 r' (record_place i + E-OWN) ≡ to_at r i
  pub end : num_at 4 r' (record_place i + E-ENDS) ≡ num_at 4 r (record_place i + R-ENDS)
  pub rest : take 12 (drop (record_place i + 20) r') ≡ take 12 (drop (record_place i + 20) r)

pub record RewroteRow (w r q : List ℕ) (i : ℕ) (r' : List ℕ) : Type 0 where
  pub row : EdgeFrom w r q i r'
  pub before : take (record_place i) r' ≡ take (record_place i) r
  pub past : drop (record_place (i + 1)) r' ≡ drop (record_place (i + 1)) r
  pub long : length r' ≡ length r

pub record Rewrites (m : ℕ) (w r q : List ℕ) : Type 0 where
  pub each : (i : ℕ) → i < m → RewritesRow w r q i

pub record Rewrote (m : ℕ) (w r q r' : List ℕ) : Type 0 where
  pub rows : (i : ℕ) → i < m → EdgeFrom w r q i r'
  pub beyond : drop (record_place m) r' ≡ drop (record_place m) r
  pub long : length r' ≡ length r

-- ---- the whole

-- a record's addresses are those of a code of n bytes, and its path has one at least
pub record Lies (n : ℕ) (x : Rec) : Type 0 where
  pub start : x.start ≤ n
  pub to : (t : ℕ) → In t (dest x.to) → t ≤ n
  pub some : 0 < length x.path
  pub path : (a : ℕ) → In a x.path → a ≤ n

-- the blocks of the code, prepared in a mode, stand in W, with no note, and the m records in R and Q
pub record Fits (mode : ℕ) (code s : List ℕ) (room n m : ℕ) (w r q : List ℕ) : Type 0 where
  pub size : length code ≡ n
  pub blocks : blocks_at w n ≡ map (λ (x : Node). x.block) (prepared (in_mode mode) code)
  pub lent : Room n w
  pub few : m ≤ 2 ^ 30
  pub rows : (i : ℕ) → i < m → Row r q i
  pub lie : (x : Rec) → In x (recs_of r q s room m) → Lies n x
  pub unnoted : (a : ℕ) → a ≤ n → note_at w n a ≡ 0

-- so for some code and mode, and states in some S that are not asked for
pub record Graphs (n m : ℕ) (w r q : List ℕ) : Type 0 where
  pub mode : ℕ
  pub code : List ℕ
  pub states : List ℕ
  pub room : ℕ
  pub fits : Fits mode code states room n m w r q

-- and for each such, all is finished, and so many addresses are flagged. Of W the worklist is scratch; all else, and every byte of R, is said.
pub record Graphed (n m : ℕ) (w r q w' r' : List ℕ) (flags : ℕ) : Type 0 where
  pub finished : (mode : ℕ) (code s : List ℕ) (room : ℕ) → Fits mode code s room n m w r q → Finished mode code (recs_of r q s room m) w' r' q
  pub rows : (a : ℕ) → a ≤ n → take ROW (drop (row_place a) w') ≡ merged_row n (note_of r a m) w a
  pub fresh : Fresh n w'
  pub edges : (i : ℕ) → i < m → EdgeFrom w' r q i r'
  pub places : Chains n m 0 r' w' r' 0
  pub witnesses : Chains n m 4 r' w' r' 0
  pub fields : (x : ℕ) → x ≤ n → take 6 (drop (fields_place n x + COUNT) w') ≡ replicate 6 0
  pub spare : (x : ℕ) → x ≤ n → take 1 (drop (fields_place n x + LAST) w') ≡ replicate 1 0
  pub beyond_w : PastList n w w'
  pub beyond_r : drop (record_place m) r' ≡ drop (record_place m) r
  pub long_w : length w' ≡ length w
  pub long_r : length r' ≡ length r
  pub count : flags ≡ length (flagged w' n)
