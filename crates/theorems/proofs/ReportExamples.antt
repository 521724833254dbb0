-- Document 02, "No. 11": reports of the map of `60056007565B005B56` and of maps like it; one table under one claim. Assumes nothing.
use Prim.Native.Nat.{ℕ, ◌-◌, ◌^◌}
use mathlib.Core.Path.{◌≡◌, refl}
use mathlib.Core.List.{List, [], ◌∷◌, ◌++◌}
use mathlib.Core.Option.{some}
use lib.ListN.{replicate, take}
use Rattle.spec.specs.Lists.{if, number}
use Rattle.spec.specs.Forms.{sort}
use Rattle.spec.specs.Reader.{pieces, sevens, first_bad, addresses, items, ways, finals_in, recs_in, reading, read}
use Rattle.spec.specs.Eights.{as_eights}
use Rattle.spec.specs.Counting.{distinct}
use Rattle.spec.specs.Report.{totals_of, join, gcd_in, sums, report_bytes, new_report, totals_in, ReportOutcome, reported, bad_map, no_fit, renewed, report_add, report_join, feed}
use Rattle.theorems.proofs.MapSample.{the-map, unresolved-map, one-way-map, two-ways-map}

-- maps; blocks of kinds 2 to 6; unresolved, one, several; records; longest, energy; share
abbrev one : List ℕ
one = as_eights (1 ∷ 1 ∷ 2 ∷ 0 ∷ 0 ∷ 0 ∷ 0 ∷ 0 ∷ 0 ∷ 1 ∷ 0 ∷ 2 ∷ 2 ∷ 0 ∷ 1 ∷ [])

abbrev four : List ℕ
four = as_eights (4 ∷ 4 ∷ 5 ∷ 0 ∷ 3 ∷ 0 ∷ 1 ∷ 1 ∷ 1 ∷ 4 ∷ 0 ∷ 2 ∷ 8 ∷ 1 ∷ 3 ∷ [])

-- energy up to the last that fits
abbrev nearly : ℕ → List ℕ
nearly e = as_eights (replicate 12 0 ++ e ∷ 0 ∷ 1 ∷ [])

-- dynamic blocks up to the last that fit
abbrev crowded : ℕ → List ℕ
crowded n = as_eights (replicate 6 0 ++ n ∷ 2 ^ 63 ∷ replicate 7 0)

abbrev outcomes : List ReportOutcome
outcomes =
    report_add new_report the-map
    ∷ report_add (replicate 121 0) the-map
    ∷ report_add new_report (take 70 the-map)
    ∷ report_add (take 119 new_report) (take 70 the-map)
    ∷ report_add (take 119 new_report) the-map
    ∷ report_add (nearly (2 ^ 64 - 3)) the-map
    ∷ report_add (nearly (2 ^ 64 - 2)) the-map
    ∷ report_add (crowded (2 ^ 63 - 1)) unresolved-map
    ∷ report_join one (take 119 one)
    ∷ report_join new_report one
    ∷ []

abbrev expected : List ReportOutcome
expected =
    reported one
    ∷ reported (one ++ 0 ∷ [])
    ∷ bad_map 53
    ∷ bad_map 53
    ∷ no_fit
    ∷ reported (as_eights (1 ∷ 1 ∷ 2 ∷ 0 ∷ 0 ∷ 0 ∷ 0 ∷ 0 ∷ 0 ∷ 1 ∷ 0 ∷ 2 ∷ (2 ^ 64 - 1) ∷ 0 ∷ 1 ∷ []))
    ∷ no_fit
    ∷ no_fit
    ∷ no_fit
    ∷ reported one
    ∷ []

pub calls : outcomes ≡ expected
unfolding read reading pieces sevens first_bad addresses items ways finals_in recs_in number sort if totals_of join gcd_in sums report_bytes totals_in renewed distinct
calls = refl

-- a folder; one with a file that holds no map; two of four dynamic blocks unresolved
pub folders : feed new_report (the-map ∷ unresolved-map ∷ one-way-map ∷ two-ways-map ∷ []) ∷ feed new_report (the-map ∷ take 70 the-map ∷ []) ∷ feed four (unresolved-map ∷ []) ∷ []
    ≡ some four ∷ some one ∷ some (as_eights (5 ∷ 5 ∷ 6 ∷ 0 ∷ 4 ∷ 0 ∷ 2 ∷ 1 ∷ 1 ∷ 5 ∷ 0 ∷ 2 ∷ 10 ∷ 1 ∷ 2 ∷ [])) ∷ []
unfolding read reading pieces sevens first_bad addresses items ways finals_in recs_in number sort if totals_of join gcd_in sums report_bytes totals_in renewed distinct feed
folders = refl
