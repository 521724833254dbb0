-- The note of an address: the one destination of its records and 1 more, 0 where they have none, `several` where they have more than one. It stands in W
-- among the address's fields of others. Assumes nothing.
use Rattle.std.specs.Prelude.{Option, Some, None, not, ◌&&◌, List, ◌++◌, ℕ, zero, suc, ◌+◌, ◌-◌, eqb, leb, take, drop}
use Rattle.spec.specs.Lists.{if}
use Rattle.spec.specs.Blocks.{Kind, terminate, jump, jumpi, dynamic_jump, dynamic_jumpi, Block, with_kind}
use Rattle.lent.specs.Bytes.{num_at}
use Rattle.layout.specs.Marks.{NOWHERE}
use Rattle.layout.specs.Records.{start_at, to_at}
use Rattle.layout.specs.Parts.{ROW, row_place}
use Rattle.layout.specs.Rows.{END, POSITION, tag_at, head_of}
use Rattle.layout.specs.declared.row.BlockType.TheVariants.{Jump}

abbrev pub several : ℕ
several = 0xFFFFFFFF

-- a note with one destination more
unfoldable pub joined : ℕ → ℕ → ℕ
joined old to = if (eqb old 0) (to + 1) (if (eqb old (to + 1)) old several)

-- the note of a, with record i more
unfoldable pub stepped : List ℕ → ℕ → ℕ → ℕ → ℕ
stepped r i a old = if (eqb a (start_at r i)) (if (eqb (to_at r i) NOWHERE) old (joined old (to_at r i))) old

-- after the first m records
unfoldable pub note_of : List ℕ → ℕ → ℕ → ℕ
note_of r a zero = 0
note_of r a (suc m) = stepped r m a (note_of r a m)

-- the destination that a note says, in a code of n bytes
unfoldable pub shared_of : ℕ → ℕ → Option ℕ
shared_of n note = if (eqb note 0) None (if (leb note (n + 1)) (Some (note - 1)) None)

-- "A DynamicJump whose entries share one target becomes a Jump", by its note
unfoldable pub by_note : ℕ → ℕ → Kind
by_note n note = if (eqb note 0) dynamic_jump (if (leb note (n + 1)) (jump (note - 1)) dynamic_jump)

abbrev pub merged_kind : ℕ → ℕ → Kind → Kind
merged_kind n note (terminate success) = terminate success
merged_kind n note (jump t) = jump t
merged_kind n note (jumpi t f) = jumpi t f
merged_kind n note dynamic_jump = by_note n note
merged_kind n note (dynamic_jumpi f) = dynamic_jumpi f

abbrev pub merged_by : ℕ → ℕ → Block → Block
merged_by n note b = with_kind (merged_kind n note b.kind) b

-- by the note of its start
abbrev pub merged_block : ℕ → (ℕ → ℕ) → Block → Block
merged_block n notes b = merged_by n (notes b.start) b

-- the twenty bytes of the row of a after that: the kind and the sides are new where the kind is DynamicJump and its note says one destination
unfoldable pub merged_row : ℕ → ℕ → List ℕ → ℕ → List ℕ
merged_row n note w a =
    if (eqb (tag_at w a) 5 && not (eqb note 0) && leb note (n + 1)) (head_of (num_at 2 w (row_place a + END)) (Jump (note - 1)) ++ take 12 (drop (row_place a + POSITION) w))
    (take ROW (drop (row_place a) w))

-- the destination that a row of edges has: the record's, if its block is still a DynamicJump
unfoldable pub edge_to : ℕ → ℕ → ℕ
edge_to kind to = if (eqb kind 5) to NOWHERE
