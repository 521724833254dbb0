-- The rows' own mark for a missing destination. It lies above 49,152, and that every address is below it is part of the invariants: `few` of the tables,
-- `away` of the edges. What the entries write for it is theirs to say. Assumes nothing.
use Rattle.std.specs.Prelude.{ℕ}
use Rattle.spec.specs.Search.{Found, nowhere, found}

abbrev pub NOWHERE : ℕ
NOWHERE = 0xFFFF

-- where a record leads, as a row has it
abbrev pub to_number : Found → ℕ
to_number nowhere = NOWHERE
to_number (found t s) = t
