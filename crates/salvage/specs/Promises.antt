-- The contracts of the salvage, against the documents' one. Assumes nothing.
use Rattle.std.specs.Prelude.{ℕ, zero, suc, ◌≡◌, Bool, true, false, not, ◌&&◌, ◌||◌, List, eqb, leb, length, Result as OkOr, Ok, Err}
use Rattle.spec.specs.Reader.{Reading as Said, holds, bad}
use Rattle.spec.specs.Salvage.{Salvaged as Result, copied, salvages_as, out_after, printed_after}
use Rattle.reader.specs.Shapes.{seven_at, behind_at, entry_at}
use Rattle.reader.specs.Scanning.{last_of}
use Rattle.reader.specs.declared.entry.Entry.TheVariants.{Head}
use Rattle.reader.specs.declared.class.Order.{Order}
use Rattle.reader.specs.declared.class.Order.TheVariants.{Blocks, Sevens, Records}
use Rattle.reader.specs.declared.scan.BadEntry.{BadEntry}
use Rattle.reader.specs.declared.scan.Scan.{Scan}
use Rattle.refusal.specs.declared.Refusal.{Refusal}
use Rattle.refusal.specs.declared.Refusal.TheVariants.{Archive}
use Rattle.salvage.specs.declared.judge.Judged.{Judged}

-- the bytes begin with a head that has these counts, and the entry behind it stands there
pub record Headed (b : List ℕ) (to n m : ℕ) : Type 0 where
  pub size : ℕ
  pub energy : ℕ
  pub head : entry_at b 0 ≡ Ok (Head size n m energy)
  pub behind : to ≡ behind_at b 0

-- a block, or a 7 of its run, is the last entry: behind a head blocks may start anywhere, behind a block from 1 on
abbrev pub running : Order → Bool
running (Blocks low) = not (eqb low 0)
running (Sevens low block left) = true
running (Records form) = false

-- a 7 of a run is next
abbrev pub runs : Order → List ℕ → ℕ → Bool
runs p b at = running p && seven_at b at

-- the map is over where the scan stands
abbrev pub over_of : List ℕ → Scan → ℕ → ℕ → Bool
over_of b s n m = leb (length b) s.at || (leb n s.blocks && (leb m s.records && not (runs s.place b s.at)))

-- what is said of it there
abbrev pub close : OkOr Unit BadEntry → ℕ → OkOr ℕ BadEntry
close (Ok _) at = Ok at
close (Err e) at = Err e

abbrev pub closed_of : Scan → ℕ → ℕ → OkOr ℕ BadEntry
closed_of s n m = close (last_of s n m) s.at

-- of the first map, which has so many bytes
abbrev pub first_of : ℕ → Said → OkOr ℕ BadEntry
first_of n (holds m) = Ok n
first_of n (bad o) = Err (record { offset = o })

-- of the archive
abbrev pub judged_of : Result → Judged
judged_of s = record { maps = length s.maps; bytes = length (copied s); offset = s.offset }

-- the answer of a number: 0 or 18
abbrev pub answer_of : ℕ → OkOr Unit Refusal
answer_of zero = Ok tt
answer_of (suc n) = Err Archive

-- the call: its answer, and every lent byte afterwards
pub record Salvaged (archive out report : List ℕ) (x : OkOr Unit Refusal) (out' report' : List ℕ) : Type 0 where
  pub said : x ≡ answer_of (salvages_as archive out report)
  pub out_is : out' ≡ out_after archive out report
  pub report_is : report' ≡ printed_after archive out report
