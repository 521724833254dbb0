-- Document 02, "No. 8": logs of `60056007565B005B56` followed through its map and through maps like it; one table under one claim. Assumes nothing.
use Prim.Native.Nat.{ℕ, ◌+◌, ◌*◌}
use mathlib.Core.Path.{◌≡◌, refl}
use mathlib.Core.List.{List, [], ◌∷◌, map}
use lib.ListN.{take, replicate}
use Rattle.spec.specs.Lists.{if, number}
use Rattle.spec.specs.Opcodes.{row}
use Rattle.spec.specs.Forms.{sort}
use Rattle.spec.specs.Reader.{pieces, sevens, first_bad, addresses, items, ways, finals_in, recs_in, reading, read}
use Rattle.spec.specs.Eights.{as_eights, over}
use Rattle.spec.specs.Counting.{distinct}
use Rattle.spec.specs.Follow.{FollowOutcome, starting, move, counted, follow_from, follow_call, follows_as, counts_after, work_after}
use Rattle.theorems.proofs.MapSample.{hex, the_code, the-map, one-way-map, two-ways-map}

pub record Case : Type 0 where
  stored : List ℕ
  code : List ℕ
  log : List ℕ
  room : ℕ
  number_is : ℕ
  counts : List ℕ

-- a log's steps, the place, and the counts
abbrev case : List ℕ → List ℕ → ℕ → List ℕ → Case
case stored log place counts = record { stored = stored; code = the_code; log = as_eights log; room = 56; number_is = 256 * place; counts = counts }

abbrev refused : List ℕ → List ℕ → ℕ → ℕ → Case
refused stored log room n = record { stored = stored; code = the_code; log = log; room = room; number_is = n; counts = [] }

abbrev cases : List Case
cases =
    -- all steps are in the map; an empty log; one that does not start at 0
    case the-map (0 ∷ 2 ∷ 4 ∷ 7 ∷ 8 ∷ 5 ∷ 6 ∷ []) 7 (1 ∷ 1 ∷ 1 ∷ 1 ∷ 1 ∷ []) ∷ case the-map [] 0 (0 ∷ 0 ∷ 0 ∷ 0 ∷ 0 ∷ []) ∷ case the-map (5 ∷ 6 ∷ []) 0 (0 ∷ 0 ∷ 0 ∷ 0 ∷ 0 ∷ [])
    ∷
    -- an edge that the map lacks; into an argument; behind a Terminate
    case the-map (0 ∷ 2 ∷ 4 ∷ 5 ∷ []) 3 (1 ∷ 0 ∷ 0 ∷ 0 ∷ 0 ∷ []) ∷ case the-map (0 ∷ 2 ∷ 3 ∷ []) 2 (1 ∷ 0 ∷ 0 ∷ 0 ∷ 0 ∷ [])
    ∷ case the-map (0 ∷ 2 ∷ 4 ∷ 7 ∷ 8 ∷ 5 ∷ 6 ∷ 7 ∷ []) 7 (1 ∷ 1 ∷ 1 ∷ 1 ∷ 1 ∷ [])
    ∷
    -- a block entered twice, by two ways; equal destinations are one, missing ones none
    case two-ways-map (0 ∷ 2 ∷ 4 ∷ 7 ∷ 8 ∷ 0 ∷ 2 ∷ 4 ∷ 7 ∷ 8 ∷ 5 ∷ 6 ∷ []) 12 (2 ∷ 2 ∷ 1 ∷ 2 ∷ 1 ∷ 1 ∷ [])
    ∷ case one-way-map (0 ∷ 2 ∷ 4 ∷ 7 ∷ 8 ∷ 5 ∷ 6 ∷ 0x8000 ∷ []) 7 (1 ∷ 1 ∷ 1 ∷ 1 ∷ 1 ∷ [])
    ∷
    -- a code that ends before the map does: nothing follows its last step
    record { stored = the-map; code = take 8 the_code; log = as_eights (0 ∷ 2 ∷ 4 ∷ 7 ∷ 8 ∷ 5 ∷ []); room = 40; number_is = 256 * 5; counts = 1 ∷ 1 ∷ 0 ∷ 1 ∷ 0 ∷ [] }
    ∷
    -- a code in which an instruction of the block runs past its end
    record { stored = the-map; code = hex 9 0x60056007565b006056; log = as_eights (0 ∷ 2 ∷ 4 ∷ 7 ∷ 9 ∷ []); room = 40; number_is = 256 * 4; counts = 1 ∷ 1 ∷ 0 ∷ 1 ∷ 0 ∷ [] }
    ∷
    -- 12, 14, 15, in that order
    refused (take 70 the-map) (0 ∷ []) 0 (12 + 256 * 53) ∷ refused the-map (0 ∷ []) 0 14 ∷ refused the-map (as_eights (0 ∷ [])) 39 15 ∷ []

-- what a call gives, and what is in the counts and in the work buffer afterwards
abbrev given : FollowOutcome → ℕ → List (List ℕ)
given o room = (follows_as o ∷ []) ∷ counts_after (replicate room 7) o ∷ work_after (7 ∷ []) o ∷ []

abbrev due : List ℕ → ℕ → List ℕ → List (List ℕ)
due [] room n = n ∷ replicate room 7 ∷ (7 ∷ []) ∷ []
due (c ∷ cs) room n = n ∷ over (as_eights (c ∷ cs)) (replicate room 7) ∷ (0 ∷ []) ∷ []

pub followed-cases : map (λ (c : Case). given (follow_call c.stored c.code c.log (replicate c.room 7)) c.room) cases
    ≡ map (λ (c : Case). due c.counts c.room (c.number_is ∷ [])) cases
unfolding read reading pieces sevens first_bad addresses items ways finals_in recs_in number sort if row distinct starting move counted follow_from
followed-cases = refl
