-- The kinds of a family and its number for a missing destination, which stands for the rows' own mark. Assumes nothing.
use Rattle.std.specs.Prelude.{Bool, Option, Some, None, ℕ, eqb}
use Rattle.spec.specs.Lists.{if}
use Rattle.spec.specs.Entries.{way_kind, record_kind, numbered_kind, absent}
use Rattle.layout.specs.Marks.{NOWHERE}
use Rattle.entries.specs.declared.family.Family.{Family}

abbrev pub family_of : Bool → Family
family_of wide = record { way = way_kind wide; plain = record_kind wide; numbered = numbered_kind wide; missing = absent wide }

-- what is written of a row's destination
unfoldable pub written_to : ℕ → ℕ → ℕ
written_to missing to = if (eqb to NOWHERE) missing to

-- the destination that a row's number says
unfoldable pub led_to : ℕ → Option ℕ
led_to to = if (eqb to NOWHERE) None (Some to)
