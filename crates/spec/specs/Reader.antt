-- Document 02, "No. 2. Read back what we stored": a reader for the entry form. It goes over the bytes once. Assumes nothing.
use Rattle.std.specs.Prelude.{ℕ, zero, suc, ◌+◌, ◌*◌, ◌-◌, ◌^◌, Bool, true, false, ◌&&◌, List, [], ◌∷◌, map, eqb, leb, ltb, length, drop}
use Rattle.std.proofs.Math.Option.{Option, none, some}
use Rattle.spec.specs.Lists.{if, number}
use Rattle.spec.specs.Blocks.{Kind, terminate, jump, jumpi, dynamic_jump, dynamic_jumpi, Block, block}
use Rattle.spec.specs.Stacks.{entry as no-state}
use Rattle.spec.specs.Search.{Found, nowhere, found, Rec}
use Rattle.spec.specs.Ending.{Final}
use Rattle.spec.specs.Entries.{Map}
use Rattle.spec.specs.Forms.{wide_in, field, announced, Entry, entry, TERMINATE, JUMP, JUMPI, DYNAMIC-JUMP, DYNAMIC-JUMPI, Sort, HEAD, WAY, RECORD, UNKNOWN, BLOCK, sort, long, dynamic, owes, start_in}

-- "either gives the answer it holds or refuses with the place of the first bad entry"
pub data Reading : Type 0 where
  holds : Map → Reading
  bad : ℕ → Reading

-- ---- (i) the entries, by their lengths

-- an entry at its offset, with its kind and its body; or one that is cut, which is then the last
pub data Piece : Type 0 where
  whole : ℕ → Entry → Piece
  cut : ℕ → Piece

-- so many bytes are left
abbrev pub has : List ℕ → ℕ → Bool
has [] zero = true
has [] (suc n) = false
has (x ∷ xs) zero = true
has (x ∷ xs) (suc n) = has xs n

-- the entries from `at` on, behind the next `skip` bytes; "cut entries": fewer bytes are left than the 6 leading ones and the body that they announce
unfoldable pub pieces : List ℕ → ℕ → ℕ → List Piece
pieces [] skip at = []
pieces (x ∷ xs) zero at =
    let b = x ∷ xs in
    let more = whole at (entry b) ∷ pieces xs (5 + announced b) (suc at) in
    if (has b (6 + announced b)) more (cut at ∷ [])
pieces (x ∷ xs) (suc skip) at = pieces xs skip (suc at)

-- ---- (ii) an entry's own form

-- "success bytes over 1"
abbrev pub fair : Sort → List ℕ → Bool
fair HEAD body = true
fair (WAY missing) body = true
fair (RECORD at missing) body = true
fair UNKNOWN body = true
fair (BLOCK TERMINATE) body = leb (field 4 1 body) 1
fair (BLOCK JUMP) body = true
fair (BLOCK JUMPI) body = true
fair (BLOCK DYNAMIC-JUMP) body = true
fair (BLOCK DYNAMIC-JUMPI) body = true

-- "bodies longer or shorter than their kind says"
abbrev pub formed : Sort → List ℕ → Bool
formed s body = eqb (length body) (long s body) && fair s body

-- ---- (iii) the order

-- the head is to come; blocks may come, from a start on, and 7s or not; records alone may come, of the kind of those before, told by where its path length
-- stands
pub data Place : Type 0 where
  first : Place
  blocks : ℕ → Bool → Place
  records : ℕ → Place

-- the place behind an entry that may come; no other may
abbrev pub next : Sort → ℕ → Place → Option Place
next HEAD start first = some (blocks 0 false)
next (WAY missing) start (blocks low true) = some (blocks low true)
next (RECORD at missing) start (blocks low sevens) = some (records at)
-- "after one of 8 and 9 the other is a bad entry"
next (RECORD at missing) start (records by) = if (eqb at by) (some (records by)) none
-- "a block start not above the one before"
next (BLOCK x) start (blocks low sevens) = if (leb low start) (some (blocks (suc start) (dynamic x))) none
-- "a missing head"
next (BLOCK x) start first = none
next (WAY missing) start first = none
next (RECORD at missing) start first = none
-- "entries out of order"
next HEAD start (blocks low sevens) = none
next HEAD start (records by) = none
next (BLOCK x) start (records by) = none
-- "kind 7 away from a dynamic block"
next (WAY missing) start (blocks low false) = none
next (WAY missing) start (records by) = none
-- "unknown kinds"
next UNKNOWN start p = none

-- ---- (iv) the dynamic counts

-- "only whole 7s count": those of the run that begins here
abbrev pub goes_on : Sort → ℕ → ℕ
goes_on HEAD more = 0
goes_on (BLOCK x) more = 0
goes_on (WAY missing) more = more
goes_on (RECORD at missing) more = 0
goes_on UNKNOWN more = 0

unfoldable pub sevens : Bool → List Piece → ℕ
sevens wide [] = 0
sevens wide (cut at ∷ ps) = 0
sevens wide (whole at e ∷ ps) = let more = suc (sevens wide ps) in goes_on (sort wide e.kind) more

-- "a dynamic count its 7s do not meet"
abbrev pub met : Bool → Option ℕ → List Piece → Bool
met wide none ps = true
met wide (some n) ps = eqb n (sevens wide ps)

-- ---- the first bad entry

-- an entry at `at` that is `ok` by itself goes on to the place behind it, if it may come
abbrev pub taken : ℕ → Bool → (Place → Option ℕ) → Option Place → Option ℕ
taken at ok on none = some at
taken at ok on (some p) = let later = on p in if ok later (some at)

-- "a missing head": there is no byte
unfoldable pub first_bad : Bool → List Piece → Place → Option ℕ
first_bad wide [] first = some 0
first_bad wide [] (blocks low sevens) = none
first_bad wide [] (records by) = none
first_bad wide (cut at ∷ ps) p = some at
first_bad wide (whole at e ∷ ps) p =
    let s = sort wide e.kind in
    taken at (formed s e.body && met wide (owes s e.body) ps) (λ q. first_bad wide ps q) (next s (start_in e.body) p)

-- ---- the map that the entries hold

-- an entry with its numbers; a block with its count, 0 where it has none; a record, and whether it has its number
pub data Item : Type 0 where
  a_head : ℕ → ℕ → ℕ → ℕ → Item
  a_block : Block → ℕ → Item
  a_way : Found → List ℕ → Item
  a_record : Bool → Rec → Item
  no_item : Item

-- the state that a search keeps for a destination is not written, and none is read
abbrev pub destined : ℕ → ℕ → Found
destined missing n = if (eqb n missing) nowhere (found n no-state)

-- addresses of 2 bytes
unfoldable pub addresses : List ℕ → List ℕ
addresses [] = []
addresses (x ∷ []) = []
addresses (x ∷ y ∷ bs) = number (x ∷ y ∷ []) ∷ addresses bs

abbrev pub blocked : List ℕ → Kind → Block
blocked body k = block (field 0 2 body) (field 0 2 body) (field 2 2 body) k

-- the number of a record that has one
abbrev pub numbered_by : Bool → ℕ → ℕ
numbered_by true n = n
numbered_by false n = 0

abbrev pub item_for : Sort → List ℕ → Item
item_for HEAD body = a_head (field 0 2 body) (field 2 2 body) (field 4 4 body) (field 8 4 body)
item_for (BLOCK TERMINATE) body = a_block (blocked body (terminate (eqb (field 4 1 body) 1))) 0
item_for (BLOCK JUMP) body = a_block (blocked body (jump (field 4 2 body))) 0
item_for (BLOCK JUMPI) body = a_block (blocked body (jumpi (field 4 2 body) (field 6 2 body))) 0
item_for (BLOCK DYNAMIC-JUMP) body = a_block (blocked body dynamic_jump) (field 4 4 body)
item_for (BLOCK DYNAMIC-JUMPI) body = a_block (blocked body (dynamic_jumpi (field 4 2 body))) (field 6 4 body)
item_for (WAY missing) body = a_way (destined missing (field 0 2 body)) (addresses (drop 6 body))
item_for (RECORD at missing) body =
    a_record (eqb at 8) (record { start = field 0 2 body; to = destined missing (field 2 2 body); path = addresses (drop (at + 4) body); energy = numbered_by (eqb at 8) (field 4 4 body) })
item_for UNKNOWN body = no_item

unfoldable pub items : Bool → List Piece → List Item
items wide [] = []
items wide (cut at ∷ ps) = items wide ps
items wide (whole at e ∷ ps) = item_for (sort wide e.kind) e.body ∷ items wide ps

-- the 7s that come first, as entries of the block at a
unfoldable pub ways : ℕ → List Item → List Rec
ways a [] = []
ways a (a_way t p ∷ is) = record { start = a; to = t; path = p; energy = 0 } ∷ ways a is
ways a (a_head s n m e ∷ is) = []
ways a (a_block b n ∷ is) = []
ways a (a_record b r ∷ is) = []
ways a (no_item ∷ is) = []

-- the blocks, each with its 7s
unfoldable pub finals_in : List Item → List Final
finals_in [] = []
finals_in (a_block b n ∷ is) = record { block = b; entries = ways b.start is } ∷ finals_in is
finals_in (a_way t p ∷ is) = finals_in is
finals_in (a_head s n m e ∷ is) = finals_in is
finals_in (a_record b r ∷ is) = finals_in is
finals_in (no_item ∷ is) = finals_in is

unfoldable pub recs_in : List Item → List Rec
recs_in [] = []
recs_in (a_record b r ∷ is) = r ∷ recs_in is
recs_in (a_way t p ∷ is) = recs_in is
recs_in (a_block b n ∷ is) = recs_in is
recs_in (a_head s n m e ∷ is) = recs_in is
recs_in (no_item ∷ is) = recs_in is

-- they have their numbers, which the first one tells
unfoldable pub numbered_in : List Item → Bool
numbered_in [] = false
numbered_in (a_record b r ∷ is) = b
numbered_in (a_way t p ∷ is) = numbered_in is
numbered_in (a_block b n ∷ is) = numbered_in is
numbered_in (a_head s n m e ∷ is) = numbered_in is
numbered_in (no_item ∷ is) = numbered_in is

-- ---- (v) "wrong head counts are looked at last and give offset 0"

abbrev pub counted : ℕ → ℕ → Map → Reading
counted n m a = if (eqb n (length a.blocks) && eqb m (length a.recs)) (holds a) (bad 0)

abbrev pub held : List Item → Reading
held [] = bad 0
held (a_head size n m energy ∷ is) = counted n m (record { size = size; energy = energy; blocks = finals_in is; recs = recs_in is; numbered = numbered_in is })
held (a_block b n ∷ is) = bad 0
held (a_way t p ∷ is) = bad 0
held (a_record b r ∷ is) = bad 0
held (no_item ∷ is) = bad 0

abbrev pub verdict : Bool → List Piece → Option ℕ → Reading
verdict wide ps none = held (items wide ps)
verdict wide ps (some at) = bad at

-- in one family
unfoldable pub reading : Bool → List ℕ → Reading
reading wide b = let ps = pieces b 0 0 in verdict wide ps (first_bad wide ps first)

-- the reader
unfoldable pub read : List ℕ → Reading
read b = reading (wide_in b) b

-- ---- what the bytes of a map keep of it: all but the states that a search keeps for destinations, and the numbers of records where they are not written

abbrev pub stateless : Found → Found
stateless nowhere = nowhere
stateless (found t s) = found t no-state

abbrev pub plain_rec : Rec → Rec
plain_rec r = record { start = r.start; to = stateless r.to; path = r.path; energy = 0 }

abbrev pub plain_record : Bool → Rec → Rec
plain_record b r = record { start = r.start; to = stateless r.to; path = r.path; energy = numbered_by b r.energy }

-- of no record no kind is told
abbrev pub told_by : List Rec → Bool → Bool
told_by [] b = false
told_by (r ∷ rs) b = b

abbrev pub plain_final : Final → Final
plain_final f = record { block = f.block; entries = map plain_rec f.entries }

abbrev pub plain : Map → Map
plain m = record { size = m.size; energy = m.energy; blocks = map plain_final m.blocks; recs = map (plain_record m.numbered) m.recs; numbered = told_by m.recs m.numbered }

-- a number and a value as one: a value of 2^56 or more, which no buffer has, is told as 2^56 − 1
abbrev pub told : ℕ → ℕ → ℕ
told number value = number + 256 * if (ltb value (2 ^ 56)) value (2 ^ 56 - 1)

-- "Refusals: 12, bad entry, with its offset": the exported reader's number
abbrev pub reads_as : Reading → ℕ
reads_as (holds m) = 0
reads_as (bad at) = told 12 at
