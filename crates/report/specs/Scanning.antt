-- What the pass over a stored map gives. Assumes nothing.
use Rattle.std.specs.Prelude.{ℕ, ◌≡◌, List, [], ◌∷◌, Result, Ok, Err}
use Rattle.spec.specs.Reader.{Reading, holds, bad}
use Rattle.spec.specs.Report.{totals_of, join}
use Rattle.reader.specs.Shapes.{behind_at, entry_at}
use Rattle.reader.specs.Scanning.{last_of}
use Rattle.reader.specs.declared.entry.Entry.TheVariants.{Head}
use Rattle.reader.specs.declared.scan.BadEntry.{BadEntry}
use Rattle.reader.specs.declared.scan.Scan.{Scan}
use Rattle.report.specs.Counts.{totals_from, counts_of, shut_of}
use Rattle.report.specs.declared.count.Counts.{Counts}
use Rattle.report.specs.declared.count.Open.{Open}

-- the bytes begin with a head that has these counts, and the entry behind it stands there
pub record Headed (b : List ℕ) (to n m : ℕ) : Type 0 where
  pub size : ℕ
  pub energy : ℕ
  pub head : entry_at b 0 ≡ Ok (Head size n m energy)
  pub behind : to ≡ behind_at b 0

-- of a map that reads whole its totals, but for the number of maps and the energy
abbrev pub pass_of : Reading → Result Counts BadEntry
pass_of (holds m) = Ok (counts_of (totals_of m))
pass_of (bad at) = Err (record { offset = at })

-- at the end of the bytes
abbrev pub close : Result Unit BadEntry → Counts → Open → Result Counts BadEntry
close (Ok _) c o = Ok (counts_of (join (totals_from c) (shut_of o)))
close (Err e) c o = Err e

abbrev pub closed_of : Scan → ℕ → ℕ → Counts → Open → Result Counts BadEntry
closed_of s n m c o = close (last_of s n m) c o

-- the numbers of the report of one map, whose share is not worked out
abbrev pub numbers_of : Counts → ℕ → List ℕ
numbers_of c energy =
    1 ∷ c.terminate ∷ c.jump ∷ c.jumpi ∷ c.dynamic_jump ∷ c.dynamic_jumpi ∷ c.unresolved ∷ c.one ∷ c.several ∷ c.found ∷ c.nowhere ∷ c.longest ∷ energy ∷ 0 ∷ 0 ∷ []
