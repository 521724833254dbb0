-- Document 02, "No. 14": archives of the map of `60056007565B005B56` and of maps like it, whole and damaged; one table under one claim. Assumes nothing.
use Prim.Native.Nat.{ℕ}
use mathlib.Core.Path.{◌≡◌, refl}
use mathlib.Core.List.{List, [], ◌∷◌, ◌++◌, map}
use lib.ListN.{length, take, drop, replicate}
use Rattle.spec.specs.Lists.{if, number}
use Rattle.spec.specs.Forms.{sort}
use Rattle.spec.specs.Reader.{pieces, sevens, first_bad, addresses, items, ways, finals_in, recs_in, reading, read}
use Rattle.spec.specs.Eights.{as_eights}
use Rattle.spec.specs.Salvage.{Salvaged, ends, first_map, salvage_in, salvage, copied, salvages_as, out_after, printed_after}
use Rattle.theorems.proofs.MapSample.{hex, the-map, before-7, the-record, seven, dynamic-7, two-ways-map}

-- the map with no record: it ends with two 7s; 87 bytes
abbrev open-ended : List ℕ
open-ended = hex 18 0x0c0000000100090003000000000002000000 ++ drop 18 before-7 ++ dynamic-7 2 ++ seven 5 ++ seven 0

-- a head of no block and no record; 18 bytes
abbrev only-head : List ℕ
only-head = hex 18 0x0c0000000100000000000000000000000000

-- what is printed: maps and bytes copied, bytes dropped, the offset
abbrev says : Salvaged → List ℕ
says s = length s.maps ∷ length (copied s) ∷ length s.rest ∷ s.offset ∷ []

pub record Case : Type 0 where
  archive : List ℕ
  numbers : List ℕ

abbrev case : List ℕ → ℕ → ℕ → ℕ → ℕ → Case
case b maps bytes dropped at = record { archive = b; numbers = maps ∷ bytes ∷ dropped ∷ at ∷ [] }

abbrev cases : List Case
cases =
    -- whole
    case [] 0 0 0 0 ∷ case the-map 1 71 0 71 ∷ case (the-map ++ open-ended ++ only-head ++ two-ways-map) 4 281 0 281
    ∷
    -- cut: inside the record, before it (then the head's counts are wrong), inside the head
    case (the-map ++ take 60 the-map) 1 71 60 124 ∷ case (the-map ++ take 53 the-map) 1 71 53 71 ∷ case (the-map ++ take 5 the-map) 1 71 5 71
    ∷
    -- cut inside the last 7, and before it; one more 7
    case (the-map ++ take 86 open-ended) 1 71 86 112 ∷ case (the-map ++ take 71 open-ended) 1 71 71 112 ∷ case (the-map ++ open-ended ++ seven 5) 1 71 103 112
    ∷
    -- an entry in place of a head: a record, a 7
    case (the-map ++ the-record ++ the-map) 1 71 89 71 ∷ case (the-map ++ seven 5) 1 71 16 71 ∷ case (only-head ++ seven 5) 1 18 16 18
    ∷
    -- a map that lacks its record, before the next one's head; one with a block too many
    case (the-map ++ take 53 the-map ++ the-map) 1 71 124 124 ∷ case (hex 18 0x0c0000000100090002000100000002000000 ++ drop 18 the-map) 0 0 71 0
    ∷
    -- a bad map behind a cut is not looked at
    case (take 60 the-map ++ the-map) 0 0 131 53 ∷ []

pub salvaged-cases : map (λ (c : Case). says (salvage c.archive)) cases ≡ map (λ (c : Case). c.numbers) cases
unfolding read reading pieces sevens first_bad addresses items ways finals_in recs_in number sort if ends first_map salvage_in
salvaged-cases = refl

-- the buffers: what is copied and printed, and the other bytes; 18 where either is short
abbrev damaged : List ℕ
damaged = the-map ++ take 60 the-map

pub called : salvages_as damaged (replicate 72 7) (replicate 33 7) ∷ salvages_as damaged (replicate 70 7) (replicate 32 7) ∷ salvages_as damaged (replicate 71 7) (replicate 31 7) ∷ [] ≡ 0 ∷ 18 ∷ 18 ∷ []
unfolding read reading pieces sevens first_bad addresses items ways finals_in recs_in number sort if ends first_map salvage_in
called = refl

pub buffers : out_after damaged (replicate 72 7) (replicate 33 7) ∷ printed_after damaged (replicate 72 7) (replicate 33 7) ∷ out_after damaged (replicate 72 7) [] ∷ []
    ≡ (the-map ++ 7 ∷ []) ∷ (as_eights (1 ∷ 71 ∷ 60 ∷ 124 ∷ []) ++ 7 ∷ []) ∷ replicate 72 7 ∷ []
unfolding read reading pieces sevens first_bad addresses items ways finals_in recs_in number sort if ends first_map salvage_in
buffers = refl
