-- A row's number as a link. Assumes nothing.
use Rattle.std.specs.Prelude.{Option, Some, None, ℕ, suc}

-- the number and 1 more, or 0 for none
abbrev pub link_of : Option ℕ → ℕ
link_of None = 0
link_of (Some i) = suc i
