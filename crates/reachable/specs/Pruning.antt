-- What the functions of pruning ask and promise, a record each. Assumes nothing.
use Rattle.std.specs.Prelude.{◌≡◌, ◌⊎◌, true, List, [], ◌∷◌, ◌++◌, ℕ, ◌+◌, ◌-◌, ◌≤◌, ◌<◌, length, take, drop, replicate}
use Rattle.spec.specs.Lists.{mem, little}
use Rattle.spec.specs.Reach.{Edge, closure}
use Rattle.laws.specs.Lists.{In}
use Rattle.theorems.specs.Reached.{Reached}
use Rattle.lent.specs.Bytes.{Stored}
use Rattle.layout.specs.Edges.{E-LINKS, E-ENDS, key_at, to_at, link_at}
use Rattle.layout.specs.Fields.{COUNT, LAST, HEADS, mark_at, flag_at, head_at}
use Rattle.layout.specs.Marks.{NOWHERE}
use Rattle.layout.specs.Parts.{fields_place, SameRows, SameStart, SameFields, PastFields, PastList}
use Rattle.layout.specs.Records.{RECORD, record_place}
use Rattle.reachable.specs.Marks.{flagged, entries}
use Rattle.reachable.specs.Edges.{row_edges}
use Rattle.reachable.specs.Links.{first_from, edge_at, edges_at}
use Rattle.reachable.specs.Promises.{Room, SidesWithin, Kept, Sets, Fresh, Going, Took}

-- ---- rows of edges

-- row i lies within r, and its addresses within the code
pub record EdgeRow (n : ℕ) (r : List ℕ) (i : ℕ) : Type 0 where
  pub room : record_place i + RECORD ≤ length r
  pub place : key_at r 0 i ≤ n
  pub witness : key_at r 4 i ≤ n
  pub to : (to_at r i ≡ NOWHERE → ⊥) → to_at r i ≤ n

-- rows of edges, and no address is the rows' mark for none
pub record EdgeRows (n m : ℕ) (r : List ℕ) : Type 0 where
  pub few : m ≤ 1073741824
  pub away : n < NOWHERE
  pub each : (i : ℕ) → i < m → EdgeRow n r i

-- the place, or the witness
pub record Key (by : ℕ) : Type 0 where
  pub is : (by ≡ 0) ⊎ (by ≡ 4)
  pub small : by ≤ 4

-- ---- links

-- row i is put before the rows of its key
pub record LinkedRow (n by : ℕ) (w r : List ℕ) (i : ℕ) (w' r' : List ℕ) : Type 0 where
  pub head : Stored 4 w (fields_place n (key_at r by i) + (HEADS + by)) (little 4 (i + 1)) w'
  pub link : Stored 4 r (record_place i + (E-LINKS + by)) (little 4 (head_at w n by (key_at r by i))) r'

-- all of W but the first rows of a key stays
pub record HeadsOnly (n by : ℕ) (w w' : List ℕ) : Type 0 where
  pub rows : SameRows n w w'
  pub before : SameStart (HEADS + by) n w w'
  pub after : SameFields (12 - by) (8 + by) n w w'
  pub beyond : PastFields n w w'
  pub long : length w' ≡ length w

-- all of r but the links of a key stays
pub record LinksOnly (m by : ℕ) (r r' : List ℕ) : Type 0 where
  pub before : (i : ℕ) → i < m → take (E-LINKS + by) (drop (record_place i) r') ≡ take (E-LINKS + by) (drop (record_place i) r)
  pub after : (i : ℕ) → i < m → take (20 - by) (drop (record_place i + (12 + by)) r') ≡ take (20 - by) (drop (record_place i + (12 + by)) r)
  pub beyond : drop (record_place m) r' ≡ drop (record_place m) r
  pub long : length r' ≡ length r

-- each address has the first of its rows, and each row the next, among the rows from i on
pub record Chains (n m by : ℕ) (keys w r : List ℕ) (i : ℕ) : Type 0 where
  pub heads : (x : ℕ) → x ≤ n → head_at w n by x ≡ first_from keys by x i (m - i)
  pub links : (j : ℕ) → i ≤ j → j < m → link_at r by j ≡ first_from keys by (key_at keys by j) (j + 1) (m - (j + 1))

pub record Links (n m by : ℕ) (w r : List ℕ) : Type 0 where
  pub lent : Room n w
  pub rows : EdgeRows n m r
  pub key : Key by
  pub clear : (x : ℕ) → x ≤ n → head_at w n by x ≡ 0

pub record Linked (n m by : ℕ) (w r w' r' : List ℕ) : Type 0 where
  pub chains : Chains n m by r w' r' 0
  pub heads : HeadsOnly n by w w'
  pub links : LinksOnly m by r r'

-- ---- following

-- one of an edge's two ends waits
abbrev pub Waits : List ℕ → Edge → Type 0
Waits todo e = (mem e.place todo ≡ true) ⊎ (mem e.witness todo ≡ true)

-- More is flagged, and waits, all of it reached from what was flagged before.
pub record Spread (es : List Edge) (n : ℕ) (w : List ℕ) (count : ℕ) (w' : List ℕ) (count' : ℕ) : Type 0 where
  pub grew : Took n 1 (flagged w' n) w count w' count'
  pub sound : (y : ℕ) → mem y (flagged w' n) ≡ true → Reached es (flagged w n) y

pub record RowGoing (n by : ℕ) (w r : List ℕ) (i count : ℕ) : Type 0 where
  pub lent : Room n w
  pub row : EdgeRow n r i
  pub key : Key by
  pub got : mem (key_at r by i) (flagged w n) ≡ true
  pub few : count ≤ length (flagged w n)

-- a row leads on if its other end is flagged too
pub record FollowedRow (n by : ℕ) (r : List ℕ) (i : ℕ) (w : List ℕ) (count : ℕ) (w' : List ℕ) (count' : ℕ) : Type 0 where
  pub spread : Spread (edge_at r i) n w count w' count'
  pub led : (to_at r i ≡ NOWHERE → ⊥) → mem (key_at r (4 - by) i) (flagged w n) ≡ true → mem (to_at r i) (flagged w' n) ≡ true

pub record RowsGoing (n m by : ℕ) (w r : List ℕ) (x count : ℕ) : Type 0 where
  pub lent : Room n w
  pub rows : EdgeRows n m r
  pub key : Key by
  pub chains : Chains n m by r w r 0
  pub got : mem x (flagged w n) ≡ true
  pub few : count ≤ length (flagged w n)

-- the rows of x are followed
pub record FollowedRows (n m by : ℕ) (r : List ℕ) (x : ℕ) (w : List ℕ) (count : ℕ) (w' : List ℕ) (count' : ℕ) : Type 0 where
  pub spread : Spread (edges_at r m) n w count w' count'
  pub led : (i : ℕ) → i < m → key_at r by i ≡ x → (to_at r i ≡ NOWHERE → ⊥) → mem (key_at r (4 - by) i) (flagged w n) ≡ true → mem (to_at r i) (flagged w' n) ≡ true

-- how W and r stand in pruning's loop
pub record Pruning (n m : ℕ) (w r : List ℕ) : Type 0 where
  pub lent : Room n w
  pub within : SidesWithin w n
  pub rows : EdgeRows n m r
  pub places : Chains n m 0 r w r 0
  pub witnesses : Chains n m 4 r w r 0

pub record AllGoing (n m : ℕ) (w r : List ℕ) (x count : ℕ) : Type 0 where
  pub pruning : Pruning n m w r
  pub going : Going n w x 1 count
  pub got : mem x (flagged w n) ≡ true

-- a row whose place or witness is x leads on, or its other end waits
pub record FollowedEdges (n m : ℕ) (r : List ℕ) (x : ℕ) (w : List ℕ) (count : ℕ) (w' : List ℕ) (count' : ℕ) : Type 0 where
  pub spread : Spread (edges_at r m) n w count w' count'
  pub led : (e : Edge) → In e (edges_at r m) → (e.place ≡ x) ⊎ (e.witness ≡ x) → mem e.place (flagged w' n) ≡ true
      → mem e.witness (flagged w' n) ≡ true → Waits (entries w' n count') e ⊎ (mem e.to (flagged w' n) ≡ true)

-- so does any edge
pub record FollowedAll (n m : ℕ) (r : List ℕ) (x : ℕ) (w : List ℕ) (count : ℕ) (w' : List ℕ) (count' : ℕ) : Type 0 where
  pub spread : Spread (row_edges w n ++ edges_at r m) n w count w' count'
  pub led : (e : Edge) → In e (row_edges w n ++ edges_at r m) → (e.place ≡ x) ⊎ (e.witness ≡ x) → mem e.place (flagged w' n) ≡ true
      → mem e.witness (flagged w' n) ≡ true → Waits (entries w' n count') e ⊎ (mem e.to (flagged w' n) ≡ true)

pub record PrunedFrom (n m : ℕ) (r w w' : List ℕ) (flags : ℕ) : Type 0 where
  pub reached : (x : ℕ) → mem x (flagged w' n) ≡ mem x (closure (row_edges w n ++ edges_at r m) (0 ∷ flagged w n))
  pub sets : Sets n 1 w w'
  pub kept : Kept n w w'
  pub count : flags ≡ length (flagged w' n)

-- ---- the whole

pub record Prunes (n m : ℕ) (w r : List ℕ) : Type 0 where
  pub lent : Room n w
  pub within : SidesWithin w n
  pub rows : EdgeRows n m r

-- all of r but the links stays
pub record RowsStay (m : ℕ) (r r' : List ℕ) : Type 0 where
  pub before : (i : ℕ) → i < m → take E-LINKS (drop (record_place i) r') ≡ take E-LINKS (drop (record_place i) r)
  pub after : (i : ℕ) → i < m → take 16 (drop (record_place i + E-ENDS) r') ≡ take 16 (drop (record_place i + E-ENDS) r)
  pub beyond : drop (record_place m) r' ≡ drop (record_place m) r
  pub long : length r' ≡ length r

-- W is wiped, and then each address has its first rows; each row has its next ones.
pub record LinkedBoth (n m : ℕ) (w r w' r' : List ℕ) : Type 0 where
  pub pruning : Pruning n m w' r'
  pub none : flagged w' n ≡ []
  pub marks : (x : ℕ) → x ≤ n → mark_at w' n x ≡ 0
  pub flags : (x : ℕ) → x ≤ n → flag_at w' n x ≡ 0
  pub places : Chains n m 0 r w' r' 0
  pub witnesses : Chains n m 4 r w' r' 0
  pub fields : (x : ℕ) → x ≤ n → take 6 (drop (fields_place n x + COUNT) w') ≡ replicate 6 0
  pub spare : (x : ℕ) → x ≤ n → take 1 (drop (fields_place n x + LAST) w') ≡ replicate 1 0
  pub rows : SameRows n w w'
  pub beyond : PastFields n w w'
  pub long : length w' ≡ length w
  pub edges : edges_at r' m ≡ edges_at r m
  pub stay : RowsStay m r r'

-- What is reached from 0 is flagged and marked 1, and so many addresses are; the first rows and the links are those of the rows; the others' other fields
-- are 0, and all else stays but the worklist, which is scratch.
pub record Pruned (n m : ℕ) (w r w' r' : List ℕ) (flags : ℕ) : Type 0 where
  pub reached : (x : ℕ) → mem x (flagged w' n) ≡ mem x (closure (row_edges w n ++ edges_at r m) (0 ∷ []))
  pub fresh : Fresh n w'
  pub places : Chains n m 0 r w' r' 0
  pub witnesses : Chains n m 4 r w' r' 0
  pub fields : (x : ℕ) → x ≤ n → take 6 (drop (fields_place n x + COUNT) w') ≡ replicate 6 0
  pub spare : (x : ℕ) → x ≤ n → take 1 (drop (fields_place n x + LAST) w') ≡ replicate 1 0
  pub rows : SameRows n w w'
  pub beyond : PastList n w w'
  pub long : length w' ≡ length w
  pub stay : RowsStay m r r'
  pub count : flags ≡ length (flagged w' n)
