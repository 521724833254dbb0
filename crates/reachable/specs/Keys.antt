-- The two keys of a row of edges. Assumes nothing.
use Rattle.std.specs.Prelude.{ℕ}
use Rattle.reachable.specs.declared.link.By.{By}
use Rattle.reachable.specs.declared.link.By.TheVariants.{Place, Witness}

-- where a row has the key
abbrev pub offset_of : By → ℕ
offset_of Place = 0
offset_of Witness = 4
