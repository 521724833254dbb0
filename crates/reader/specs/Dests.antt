-- The destination that a number says. Assumes nothing.
use Rattle.std.specs.Prelude.{ℕ, eqb, Option, Some, None}
use Rattle.spec.specs.Lists.{if}
use Rattle.spec.specs.Stacks.{entry as no-state}
use Rattle.spec.specs.Search.{Found, nowhere, found}

-- by the number that stands for a missing one
abbrev pub goes_to : ℕ → ℕ → Option ℕ
goes_to missing t = if (eqb t missing) None (Some t)

-- as the definitions have it
abbrev pub found_of : Option ℕ → Found
found_of None = nowhere
found_of (Some t) = found t no-state
