-- The code's table of the kinds is the definitions' one. Assumes nothing.
use Rattle.std.specs.Prelude.{ℕ, Bool, eqb, Option, Some, None}
use Rattle.spec.specs.Lists.{if}
use Rattle.spec.specs.Entries.{way_kind, record_kind, numbered_kind, absent}
use Rattle.spec.specs.Forms.{Sort as Means, HEAD, BLOCK, WAY, RECORD, UNKNOWN, TERMINATE, JUMP, JUMPI, DYNAMIC-JUMP, DYNAMIC-JUMPI}
use Rattle.reader.specs.declared.kind.Kinds.{Kinds}
use Rattle.reader.specs.declared.kind.Sort.{Sort}
use Rattle.reader.specs.declared.kind.Sort.TheVariants.{Head, Terminate, Jump, Jumpi, DynamicJump, DynamicJumpi, Way, Record, Numbered}

abbrev pub sort_of : Bool → Option Sort → Means
sort_of wide (Some Head) = HEAD
sort_of wide (Some Terminate) = BLOCK TERMINATE
sort_of wide (Some Jump) = BLOCK JUMP
sort_of wide (Some Jumpi) = BLOCK JUMPI
sort_of wide (Some DynamicJump) = BLOCK DYNAMIC-JUMP
sort_of wide (Some DynamicJumpi) = BLOCK DYNAMIC-JUMPI
sort_of wide (Some Way) = WAY (absent wide)
sort_of wide (Some Record) = RECORD 4 (absent wide)
sort_of wide (Some Numbered) = RECORD 8 (absent wide)
sort_of wide None = UNKNOWN

-- the kinds of path entries of a family
abbrev pub path_kinds : Bool → Kinds
path_kinds wide = record { way = way_kind wide; plain = record_kind wide; numbered = numbered_kind wide }

-- the part of the table that goes by the family
unfoldable pub path_sort : Bool → ℕ → Means
path_sort wide k =
    if (eqb k (way_kind wide)) (WAY (absent wide))
    (if (eqb k (record_kind wide)) (RECORD 4 (absent wide))
    (if (eqb k (numbered_kind wide)) (RECORD 8 (absent wide)) UNKNOWN))
