-- Document 02, No. 12: what the inspector says of Return's map, and of it with one thing changed for each thing that is asked; one table under one claim. And of
-- a run whose map is accepted before pruning and not after. Assumes nothing.
use Prim.Native.Nat.{ℕ}
use mathlib.Core.Path.{◌≡◌, refl}
use mathlib.Core.List.{List, [], ◌∷◌, ◌++◌, map}
use lib.ListN.{replicate}
use Rattle.spec.specs.Lists.{if, number}
use Rattle.spec.specs.Opcodes.{row, in_mode}
use Rattle.spec.specs.Walk.{walk, instructions}
use Rattle.spec.specs.Blocks.{cuts, blocks}
use Rattle.spec.specs.Stacks.{read as read-stack, does, act, trim, run as run-block, through, compose}
use Rattle.spec.specs.Meaning.{closing}
use Rattle.spec.specs.Reach.{sweep, spread, closure}
use Rattle.spec.specs.Search.{parents, record_nowhere, record_found, arrive, follow, tries, level, turn, round, rounds, search, St}
use Rattle.spec.specs.Entries.{Map, entries, bytes}
use Rattle.spec.specs.Answer.{prepared, searched, mapped}
use Rattle.spec.specs.Forms.{sort}
use Rattle.spec.specs.Reader.{pieces, sevens, first_bad, addresses, items, ways, finals_in, recs_in, numbered_in, reading, read}
use Rattle.spec.specs.Inspector.{first_failing, looked, fault, path_entries, Inspection, refused, bad_entry, not_right, accepted, WrongPath, all_wrong, inspect_from, inspect, wrong_from, exported, place_after, rows, rows_after, work_after, unpruned}
use Rattle.theorems.proofs.MapSample.{hex}

-- Return, and its map: the head, blocks 0, 5 and 7 at the offsets 18, 30 and 41, and a record at 53
abbrev return : List ℕ
return = hex 9 0x60056007565B005B56

abbrev with_blocks : List ℕ
with_blocks = hex 18 0x0c0000000100090003000100000002000000 ++ hex 12 0x060000000300000004000700 ++ hex 11 0x0500000002000500060001 ++ hex 12 0x060000000300070008000500

-- (7; 7,0; to 5)
abbrev returns : List ℕ
returns = with_blocks ++ hex 18 0x0c0000000800070005000200000007000000

-- the same with a block 9-9, Jump 7, at 53, which stands past the code, and a record at 65
abbrev past-code : List ℕ
past-code = hex 18 0x0c0000000100090004000100000002000000 ++ hex 12 0x060000000300000004000700 ++ hex 11 0x0500000002000500060001 ++ hex 12 0x060000000300070008000500 ++ hex 12 0x060000000300090009000700

-- the same with block 7 as a DynamicJump of one 7, which stands at 55, and no record
abbrev with-seven : List ℕ → List ℕ
with-seven seven = hex 18 0x0c0000000100090003000000000002000000 ++ hex 12 0x060000000300000004000700 ++ hex 11 0x0500000002000500060001 ++ hex 14 0x0800000005000700080001000000 ++ seven

-- a call that returns to 7, from where another return goes to 9
abbrev nested : List ℕ
nested = hex 13 0x60096007600B565B565B005B56

-- its blocks 0 Jump 11, 7 Jump 9, 9 Terminate, 11 Jump 7, and a record at 65
abbrev nested-blocks : List ℕ
nested-blocks = hex 18 0x0c00000001000d0004000100000000000000 ++ hex 12 0x060000000300000006000b00 ++ hex 12 0x060000000300070008000900 ++ hex 11 0x05000000020009000a0001 ++ hex 12 0x0600000003000b000c000700

pub record Case : Type 0 where
  mode : ℕ
  code : List ℕ
  bytes_in : List ℕ
  work : ℕ
  says : Inspection

-- in the plain mode, with W just long enough
abbrev case : List ℕ → List ℕ → Inspection → Case
case c b i = record { mode = 0; code = c; bytes_in = b; work = 832; says = i }

abbrev call : ℕ → ℕ → List ℕ → Inspection → Case
call k w b i = record { mode = k; code = return; bytes_in = b; work = w; says = i }

abbrev cases : List Case
cases =
    -- Return's record
    case return returns accepted
    ∷
    -- its destination moved to 7, where 5B stands too, and to 6: "only the symbol differs"
    case return (with_blocks ++ hex 18 0x0c0000000800070007000200000007000000) (not_right 53 0)
    ∷
    case return (with_blocks ++ hex 18 0x0c0000000800070006000200000007000000) (not_right 53 0)
    ∷
    -- a missing destination: nothing is asked of its path
    case return (with_blocks ++ hex 18 0x0c0000000800070000800200000005000500) accepted
    ∷
    -- an edge that is not there: from 5 to 7
    case return (with_blocks ++ hex 18 0x0c0000000800070005000200000007000500) (not_right 53 1)
    ∷
    -- an unknown byte in the block at 0, and in the block at 7
    case (hex 9 0x600560070C5B005B56) returns (not_right 53 1)
    ∷
    case (hex 9 0x60056007565B005B0C) returns (not_right 53 0)
    ∷
    -- an empty path
    case return (with_blocks ++ hex 14 0x0800000008000700050000000000) (not_right 53 0)
    ∷
    -- another block's path; the path without its last block: Before(0) is no Jumpdest
    case return (with_blocks ++ hex 18 0x0c0000000800050005000200000007000000) (not_right 53 0)
    ∷
    case return (with_blocks ++ hex 16 0x0a000000080007000500010000000700) (not_right 53 0)
    ∷
    -- a start past the code, though the map joins it
    case return (past-code ++ hex 18 0x0c0000000800070005000200000007000900) (not_right 65 1)
    ∷
    -- a 7, and one that is not right
    case return (with-seven (hex 16 0x0a000000070005000200000007000000)) accepted
    ∷
    case return (with-seven (hex 16 0x0a000000070005000200000000000700)) (not_right 55 0)
    ∷
    -- three blocks: (7; 7,11,0; to 9), and the third one wrong
    record { mode = 1; code = nested; bytes_in = nested-blocks ++ hex 20 0x0e0000000800070009000300000007000b000000; work = 1088; says = accepted }
    ∷
    record { mode = 1; code = nested; bytes_in = nested-blocks ++ hex 20 0x0e0000000800070009000300000007000b000900; work = 1088; says = not_right 65 2 }
    ∷
    -- the numbers in their order: 13 before 3, 3 before 12, 12 before 17
    call 2 831 [] (refused 13)
    ∷
    call 1 831 [] (refused 3)
    ∷
    call 1 832 [] (bad_entry 0)
    ∷
    call 0 832 (with_blocks ++ hex 18 0x0c0000000800070007000200000007000000 ++ hex 1 0x00) (bad_entry 71)
    ∷
    record { mode = 2; code = replicate 49153 0; bytes_in = []; work = 0; says = refused 1 }
    ∷
    []

abbrev inspect-in : ℕ → List ℕ → List ℕ → ℕ → Inspection
inspect-in m = inspect (in_mode m)

pub cases-hold : map (λ (c : Case). inspect-in c.mode c.code c.bytes_in c.work) cases ≡ map (λ (c : Case). c.says) cases
unfolding if row walk read-stack does act trim through closing number sort pieces sevens first_bad addresses items ways finals_in recs_in numbered_in reading read first_failing looked fault path_entries all_wrong inspect_from
cases-hold = refl

-- Two records that are not right, at 53 and 71: all, from an offset on, and as rows with room for one and four bytes more.
abbrev two-wrong : List ℕ
two-wrong = hex 18 0x0c0000000100090003000200000002000000 ++ hex 12 0x060000000300000004000700 ++ hex 11 0x0500000002000500060001 ++ hex 12 0x060000000300070008000500
    ++ hex 18 0x0c0000000800070007000200000007000000 ++ hex 18 0x0c0000000800070005000200000007000500

abbrev wrong-at : ℕ → ℕ → WrongPath
wrong-at o p = record { offset = o; place = p }

abbrev wrong-in : ℕ → List WrongPath
wrong-in from = wrong_from (in_mode 0) return two-wrong from (read two-wrong)

listed-all : (wrong-in 53 ≡ wrong-at 53 0 ∷ wrong-at 71 1 ∷ []) × (wrong-in 54 ≡ wrong-at 71 1 ∷ []) × (wrong-in 72 ≡ [])
    × (inspect_from (in_mode 0) return two-wrong 54 832 ≡ not_right 71 1) × (inspect_from (in_mode 0) return two-wrong 72 832 ≡ accepted)
    × (rows_after (not_right 53 0) (wrong-in 0) (replicate 20 7) ≡ hex 20 0x3500000000000000000000000000000007070707)
unfolding if row walk read-stack does act trim through closing number sort pieces sevens first_bad addresses items ways finals_in recs_in numbered_in reading read first_failing looked fault path_entries all_wrong inspect_from rows
listed-all = (refl, refl, refl, refl, refl, refl)

-- what is handed over, and left, of one that is not right: 17 and the offset; the place in 8 bytes, and not where they are not there; W wiped
handed-over : (exported (not_right 53 1) ≡ 13585) × (place_after (not_right 53 1) (replicate 9 7) ≡ hex 9 0x010000000000000007)
    × (place_after (not_right 53 1) (replicate 7 7) ≡ replicate 7 7) × (place_after (bad_entry 53) (replicate 9 7) ≡ replicate 9 7)
    × (work_after (not_right 53 1) (replicate 3 7) ≡ replicate 3 0) × (work_after (refused 3) (replicate 3 7) ≡ replicate 3 7)
unfolding if
handed-over = (refl, refl, refl, refl, refl, refl)

-- ---- before pruning

-- A DynamicJumpi at 4 goes to 7, which calls 13, which returns to 15: 6001 6007 5B57 00 5B600F600D56 5B56 5B00. The true side is not followed by pruning, so that the
-- answer lacks the blocks 7, 13 and 15, and has the record (13; 13,7; to 15).
abbrev branching : List ℕ
branching = hex 17 0x600160075B57005B600F600D565B565B00

-- shown before pruning, with kind 8 and with kind 9, and as answered
abbrev run : St
run = searched (in_mode 0) 500000 branching

pub pruning-matters : map (λ (m : Map). inspect (in_mode 0) branching (bytes m) 1344) (unpruned (in_mode 0) 1 branching run ∷ unpruned (in_mode 0) 0 branching run ∷ mapped (in_mode 0) 1 branching run ∷ mapped (in_mode 0) 0 branching run ∷ [])
    ≡ accepted ∷ accepted ∷ not_right 91 1 ∷ not_right 95 1 ∷ []
unfolding if row walk instructions cuts blocks read-stack does act trim run-block through compose sweep spread closure parents record_nowhere record_found arrive follow tries level turn round rounds search entries bytes prepared searched mapped unpruned closing number sort pieces sevens first_bad addresses items ways finals_in recs_in numbered_in reading read first_failing looked fault path_entries all_wrong inspect_from
pruning-matters = refl
