-- Document 01, "Sessions to check": the starred ones, one table under one claim. Assumes nothing.
use Prim.Native.Nat.{ℕ, zero, suc, ◌/◌, ◌%◌, ◌^◌}
use mathlib.Core.Path.{◌≡◌, refl}
use mathlib.Core.List.{List, [], ◌∷◌, ◌++◌, map}
use lib.ListN.{replicate}
use Rattle.spec.specs.Lists.{if}
use Rattle.spec.specs.Opcodes.{row, in_mode}
use Rattle.spec.specs.Walk.{walk, instructions}
use Rattle.spec.specs.Blocks.{cuts, blocks}
use Rattle.spec.specs.Stacks.{read, does, act, trim, run as run-block, through, compose}
use Rattle.spec.specs.Reach.{sweep, spread, closure}
use Rattle.spec.specs.Search.{parents, record_nowhere, record_found, arrive, follow, tries, level, turn, round, rounds, search}
use Rattle.spec.specs.Rooms.{Lent, shortage}
use Rattle.spec.specs.Entries.{entries, bytes}
use Rattle.spec.specs.Answer.{Answer, number_of, written, prepared, searched, mapped, answer}
use Rattle.spec.specs.Program.{lends, decoded, program}

-- n bytes, as the hexadecimal number that they spell
abbrev pub hex : ℕ → ℕ → List ℕ
hex zero v = []
hex (suc n) v = ((v / 256 ^ n) % 256) ∷ hex n v

-- what a call returns: the number, and the bytes written
pub record Call : Type 0 where
  pub number : ℕ
  pub output : List ℕ

abbrev returned : Answer → Call
returned a = record { number = number_of a; output = written a }

abbrev writes : List ℕ → Call
writes bs = record { number = 0; output = bs }

abbrev refuses : ℕ → Call
refuses n = record { number = n; output = [] }

-- a call with its limit, its choice and its mode, or the program: what is handed over and what comes back
pub data Session : Type 0 where
  call : Lent → ℕ → ℕ → ℕ → List ℕ → Call → Session
  run : List ℕ → List ℕ → Session

abbrev got : Session → Call
got (call l limit choice mode code says) = returned (answer (in_mode mode) l limit choice code)
got (run input output) = writes (program input)

abbrev said : Session → Call
said (call l limit choice mode code says) = says
said (run input output) = writes output

-- for nine bytes of code: P, S, T, R, Q and the output in bytes
abbrev lent : ℕ → ℕ → ℕ → ℕ → ℕ → ℕ → Lent
lent p s t r q out = record { w = 832; p = p; s = s; t = t; r = r; q = q; out = out }

-- "It needs P 2, S 3, T 1, R 1, Q 2, output 71 bytes."
abbrev just : Lent
just = lent 4 27 32 32 4 71

abbrev pub sessions : List Session
sessions =
    -- empty: head only
    call lends 500000 1 0 [] (writes (hex 18 0x0c0000000100000000000000000000000000))
    ∷
    -- block 0-0, true
    call lends 500000 1 0 (hex 1 0x00) (writes (hex 18 0x0c0000000100010001000000000000000000 ++ hex 11 0x0500000002000000000001))
    ∷
    -- 0-2 Jump 3; 3-4 true
    call lends 500000 1 0 (hex 5 0x6003565B00) (writes (hex 18 0x0c0000000100050002000000000000000000 ++ hex 12 0x060000000300000002000300 ++ hex 11 0x0500000002000300040001))
    ∷
    -- 0-0 false, alone
    call lends 500000 1 0 (hex 3 0x0C5B00) (writes (hex 18 0x0c0000000100030001000000000000000000 ++ hex 11 0x0500000002000000000000))
    ∷
    -- 0-2 false, alone
    call lends 500000 1 0 (hex 6 0x6001570C5B00) (writes (hex 18 0x0c0000000100060001000000000000000000 ++ hex 11 0x0500000002000000020000))
    ∷
    -- 0-5 false
    call lends 500000 1 0 (hex 6 0x605B50600156) (writes (hex 18 0x0c0000000100060001000000000000000000 ++ hex 11 0x0500000002000000050000))
    ∷
    -- 0-8 Jump 1
    call lends 500000 1 0 (hex 9 0x605B50600160000156) (writes (hex 18 0x0c0000000100090001000000000000000000 ++ hex 12 0x060000000300000008000100))
    ∷
    -- Return
    call lends 500000 1 0 (hex 9 0x60056007565B005B56) (writes (hex 18 0x0c0000000100090003000100000002000000 ++ hex 12 0x060000000300000004000700 ++ hex 11 0x0500000002000500060001 ++ hex 12 0x060000000300070008000500 ++ hex 18 0x0c0000000800070005000200000007000000))
    ∷
    -- Return, in the rooms that it needs and no more
    call just 500000 1 0 (hex 9 0x60056007565B005B56) (writes (hex 18 0x0c0000000100090003000100000002000000 ++ hex 12 0x060000000300000004000700 ++ hex 11 0x0500000002000500060001 ++ hex 12 0x060000000300070008000500 ++ hex 18 0x0c0000000800070005000200000007000000))
    ∷
    -- Return, S of 26 bytes
    call (lent 4 26 32 32 4 71) 500000 1 0 (hex 9 0x60056007565B005B56) (refuses 5)
    ∷
    -- Return, P a byte short
    call (lent 3 27 32 32 4 71) 500000 1 0 (hex 9 0x60056007565B005B56) (refuses 4)
    ∷
    -- Return, T a byte short
    call (lent 4 27 31 32 4 71) 500000 1 0 (hex 9 0x60056007565B005B56) (refuses 6)
    ∷
    -- Return, R a byte short
    call (lent 4 27 32 31 4 71) 500000 1 0 (hex 9 0x60056007565B005B56) (refuses 7)
    ∷
    -- Return, Q a byte short
    call (lent 4 27 32 32 3 71) 500000 1 0 (hex 9 0x60056007565B005B56) (refuses 8)
    ∷
    -- Return, the output a byte short
    call (lent 4 27 32 32 4 70) 500000 1 0 (hex 9 0x60056007565B005B56) (refuses 9)
    ∷
    -- "Return ... prints exactly", typed in upper case
    run (hex 18 0x363030353630303735363542303035423536) (hex 147 0x3063303030303030303130303039303030333030303130303030303030323030303030300a3036303030303030303330303030303030343030303730300a303530303030303030323030303530303036303030310a3036303030303030303330303037303030383030303530300a3063303030303030303830303037303030353030303230303030303030373030303030300a)
    ∷
    -- with a closing line feed, in lower case
    run (hex 19 0x3630303536303037353635623030356235360a) (hex 147 0x3063303030303030303130303039303030333030303130303030303030323030303030300a3036303030303030303330303030303030343030303730300a303530303030303030323030303530303036303030310a3036303030303030303330303037303030383030303530300a3063303030303030303830303037303030353030303230303030303030373030303030300a)
    ∷
    -- nothing typed, and a line feed alone: the empty code
    run [] (hex 37 0x3063303030303030303130303030303030303030303030303030303030303030303030300a)
    ∷
    run (hex 1 0x0a) (hex 37 0x3063303030303030303130303030303030303030303030303030303030303030303030300a)
    ∷
    -- refusal 10: an odd number of digits, two line feeds, a carriage return, a space, no digit
    run (hex 4 0x3630300a) (hex 11 0x726566757365642031300a)
    ∷
    run (hex 4 0x36300a0a) (hex 11 0x726566757365642031300a)
    ∷
    run (hex 4 0x36300d0a) (hex 11 0x726566757365642031300a)
    ∷
    run (hex 3 0x363020) (hex 11 0x726566757365642031300a)
    ∷
    run (hex 2 0x3667) (hex 11 0x726566757365642031300a)
    ∷
    -- over 512 bytes of code
    run (replicate 1026 0x30) (hex 11 0x726566757365642031300a)
    ∷
    -- Return, limit 0
    call lends 0 1 0 (hex 9 0x60056007565B005B56) (writes (hex 18 0x0c0000000100090002000000000000000000 ++ hex 12 0x060000000300000004000700 ++ hex 14 0x0800000005000700080000000000))
    ∷
    -- Two callers
    call lends 500000 1 0 (hex 15 0x6005600D565B600B600D565B005B56) (writes (hex 18 0x0c00000001000f0004000200000005000000 ++ hex 12 0x060000000300000004000d00 ++ hex 12 0x06000000030005000a000d00 ++ hex 11 0x0500000002000b000c0001 ++ hex 14 0x0800000005000d000e0002000000 ++ hex 16 0x0a00000007000500020000000d000000 ++ hex 16 0x0a00000007000b00020000000d000500 ++ hex 18 0x0c00000008000d000500020000000d000000 ++ hex 18 0x0c00000008000d000b00020000000d000500))
    ∷
    -- Two callers, limit 1
    call lends 1 1 0 (hex 15 0x6005600D565B600B600D565B005B56) (writes (hex 18 0x0c00000001000f0003000100000001000000 ++ hex 12 0x060000000300000004000d00 ++ hex 12 0x06000000030005000a000d00 ++ hex 12 0x0600000003000d000e000500 ++ hex 18 0x0c00000008000d000500020000000d000000))
    ∷
    -- Two callers, limit 2
    call lends 2 1 0 (hex 15 0x6005600D565B600B600D565B005B56) (writes (hex 18 0x0c00000001000f0003000100000003000000 ++ hex 12 0x060000000300000004000d00 ++ hex 12 0x06000000030005000a000d00 ++ hex 12 0x0600000003000d000e000500 ++ hex 18 0x0c00000008000d000500020000000d000000))
    ∷
    -- Return with choice 0: a record of kind 9, made at the first unit, and four bytes of output more
    call (lent 4 27 32 32 4 75) 500000 0 0 (hex 9 0x60056007565B005B56) (writes (hex 18 0x0c0000000100090003000100000002000000 ++ hex 12 0x060000000300000004000700 ++ hex 11 0x0500000002000500060001 ++ hex 12 0x060000000300070008000500 ++ hex 22 0x10000000090007000500010000000200000007000000))
    ∷
    call (lent 4 27 32 32 4 74) 500000 0 0 (hex 9 0x60056007565B005B56) (refuses 9)
    ∷
    -- Two callers with choice 0: records made at units 1 and 3
    call lends 500000 0 0 (hex 15 0x6005600D565B600B600D565B005B56) (writes (hex 18 0x0c00000001000f0004000200000005000000 ++ hex 12 0x060000000300000004000d00 ++ hex 12 0x06000000030005000a000d00 ++ hex 11 0x0500000002000b000c0001 ++ hex 14 0x0800000005000d000e0002000000 ++ hex 16 0x0a00000007000500020000000d000000 ++ hex 16 0x0a00000007000b00020000000d000500 ++ hex 22 0x1000000009000d00050001000000020000000d000000 ++ hex 22 0x1000000009000d000b0003000000020000000d000500))
    ∷
    -- CLZ is known: 0-1 true
    call lends 500000 1 0 (hex 2 0x1E00) (writes (hex 18 0x0c0000000100020001000000000000000000 ++ hex 11 0x0500000002000000010001))
    ∷
    -- PUSH0 and 5 summed: 0-4 an empty DynamicJump in mode 0; in mode 1 0-4 Jump 5 and 5-6 true
    call lends 500000 1 0 (hex 7 0x5F600501565B00) (writes (hex 18 0x0c0000000100070001000000000000000000 ++ hex 14 0x0800000005000000040000000000))
    ∷
    call lends 500000 1 1 (hex 7 0x5F600501565B00) (writes (hex 18 0x0c0000000100070002000000000000000000 ++ hex 12 0x060000000300000004000500 ++ hex 11 0x0500000002000500060001))
    ∷
    -- mode 1, PUSH0 before JUMP: dynamic to the cutting; its own run ends in Jumpdest 0, as byte 0 is 5B
    call lends 500000 1 1 (hex 3 0x5B5F56) (writes (hex 18 0x0c0000000100030001000000000000000000 ++ hex 12 0x060000000300000002000000))
    ∷
    -- mode 2: refusal 13, after 2 and before 3
    call (lent 4 27 32 32 4 71) 500000 1 2 (hex 9 0x60056007565B005B56) (refuses 13)
    ∷
    call lends 500001 1 2 (hex 9 0x60056007565B005B56) (refuses 2)
    ∷
    call (lent 4 27 32 32 4 71) 500000 1 2 (replicate 10 0x00) (refuses 13)
    ∷
    call (lent 4 27 32 32 4 71) 500000 1 1 (replicate 10 0x00) (refuses 3)
    ∷
    []

pub sessions-hold : map got sessions ≡ map said sessions
unfolding if row walk instructions cuts blocks read does act trim run-block through compose sweep spread closure parents record_nowhere record_found arrive follow tries level turn round rounds search shortage entries bytes prepared searched mapped answer decoded program
sessions-hold = refl
