-- Sums of two totals, and a share, as the code has them. Assumes nothing.
use Rattle.std.specs.Prelude.{ℕ, ◌+◌, ◌^◌, max, eqb, ltb, Option, Some, None}
use Rattle.spec.specs.Lists.{if}
use Rattle.spec.specs.Report as definitions
use Rattle.report.specs.declared.share.Share.{Share}

-- a number, if it is of 64 bits
abbrev pub summed : ℕ → Option ℕ
summed v = if (ltb v (2 ^ 64)) (Some v) None

-- two totals at a place: the longest path stands at 11
abbrev pub joined_at : ℕ → ℕ → ℕ → ℕ
joined_at i x y = if (eqb i 11) (max x y) (x + y)

abbrev pub share_of : Share → definitions.Share
share_of s = record { part = s.part; whole = s.whole }
