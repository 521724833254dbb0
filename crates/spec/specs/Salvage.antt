-- Document 02, "No. 14. Salvage a cut archive". Assumes nothing.
use Rattle.std.specs.Prelude.{ℕ, zero, suc, ◌+◌, ◌-◌, Bool, true, false, not, ◌&&◌, List, [], ◌∷◌, eqb, leb, length, take, drop}
use Rattle.spec.specs.Lists.{if}
use Rattle.spec.specs.Entries.{joined}
use Rattle.spec.specs.Forms.{wide_in, field, Sort, HEAD, WAY, RECORD, UNKNOWN, BLOCK, sort}
use Rattle.spec.specs.Reader.{Reading, holds, bad, Piece, whole, cut, pieces, read}
use Rattle.spec.specs.BadEntries.{block_in, record_in}
use Rattle.spec.specs.Eights.{as_eights, over}

-- ---- "A map ends where its head's counts say": behind as many blocks, each with its run of 7s, and as many records

-- a 7 of the run of 7s behind a block, if we stand in one
abbrev pub of_run : Sort → Bool → Bool
of_run HEAD run = false
of_run (BLOCK x) run = false
of_run (WAY missing) run = run
of_run (RECORD at missing) run = false
of_run UNKNOWN run = false

-- whether we stand in one behind an entry
abbrev pub runs : Sort → Bool → Bool
runs HEAD run = false
runs (BLOCK x) run = true
runs (WAY missing) run = run
runs (RECORD at missing) run = false
runs UNKNOWN run = false

-- With n blocks and m records to come: the offset of the first entry that is not the map's, or `end`, where the bytes end, if there is none. A map goes on
-- until both counts are met, past blocks too many, and behind the last block with its 7s; a cut entry is its own if one of them is not met.
unfoldable pub ends : Bool → ℕ → ℕ → Bool → ℕ → List Piece → ℕ
ends wide n m run end [] = end
ends wide n m run end (cut at ∷ ps) = if (eqb (n + m) 0) at end
ends wide n m run end (whole at e ∷ ps) =
    let s = sort wide e.kind in
    let later = ends wide (n - block_in s) (m - record_in s) (runs s run) end ps in
    if (eqb (n + m) 0 && not (of_run s run)) at later

-- by the block and record counts that stand in its first entry; what does not begin with a head is refused wherever it ends
abbrev pub map_end : Bool → ℕ → List Piece → ℕ
map_end wide end [] = end
map_end wide end (cut at ∷ ps) = end
map_end wide end (whole at e ∷ ps) = ends wide (field 2 2 e.body) (field 4 4 e.body) false end ps

-- the bytes of the map that an archive begins with
unfoldable pub first_map : List ℕ → List ℕ
first_map b = take (map_end (wide_in b) (length b) (pieces b 0 0)) b

-- ---- "stored maps standing one after another"

-- the maps that are copied; what is dropped; "the offset of the first bad entry, or the input's length"
pub record Salvaged : Type 0 where
  pub maps : List (List ℕ)
  pub rest : List ℕ
  pub offset : ℕ

-- "copies each that reads whole, drops everything from the start of the first that does not"
abbrev pub judged : ℕ → List ℕ → List ℕ → (ℕ → List ℕ → Salvaged) → Reading → Salvaged
judged at b one on (bad o) = record { maps = []; rest = b; offset = at + o }
judged at b one on (holds m) =
    let later = on (at + length one) (drop (length one) b) in
    record { maps = one ∷ later.maps; rest = later.rest; offset = later.offset }

-- the bytes b, which stand at `at` of the archive and begin with n maps at most
unfoldable pub salvage_in : ℕ → ℕ → List ℕ → Salvaged
salvage_in zero at b = record { maps = []; rest = b; offset = at }
salvage_in (suc n) at [] = record { maps = []; rest = []; offset = at }
salvage_in (suc n) at (x ∷ xs) =
    let b = x ∷ xs in
    let one = first_map b in
    judged at b one (λ (to : ℕ) (more : List ℕ). salvage_in n to more) (read one)

abbrev pub salvage : List ℕ → Salvaged
salvage b = salvage_in (length b) 0 b

-- ---- the call: "how many maps and bytes it copied, how many bytes it dropped and the offset"

abbrev pub copied : Salvaged → List ℕ
copied s = joined s.maps

abbrev pub printed : Salvaged → List ℕ
printed s = as_eights (length s.maps ∷ length (copied s) ∷ length s.rest ∷ s.offset ∷ [])

-- "Refusals: 18, output room short, nothing written", of either buffer
abbrev pub has_room : Salvaged → List ℕ → List ℕ → Bool
has_room s out report = leb (length (copied s)) (length out) && leb 32 (length report)

abbrev pub salvages_as : List ℕ → List ℕ → List ℕ → ℕ
salvages_as archive out report = if (has_room (salvage archive) out report) 0 18

abbrev pub out_after : List ℕ → List ℕ → List ℕ → List ℕ
out_after archive out report = let s = salvage archive in if (has_room s out report) (over (copied s) out) out

abbrev pub printed_after : List ℕ → List ℕ → List ℕ → List ℕ
printed_after archive out report = let s = salvage archive in if (has_room s out report) (over (printed s) report) report
