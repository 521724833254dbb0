-- A search's state beside the needs that it has noted. Assumes nothing.
use Rattle.std.specs.Prelude.{◌≡◌, List, [], ◌++◌}
use Rattle.spec.specs.Search.{Need, St}

-- the state with no needs noted
abbrev pub clear : St → St
clear s = record { recs = s.recs; energy = s.energy; met = s.met; needs = [] }

-- s's needs are t's first ones, which stand last
pub record Later (s t : St) : Type 0 where
  pub more : List Need
  pub is : t.needs ≡ more ++ s.needs
