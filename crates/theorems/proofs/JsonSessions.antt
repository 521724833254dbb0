-- Document 02, No. 1: sessions of the call. Assumes nothing.
use Prim.Native.Nat.{ℕ, ◌+◌, ◌*◌, ◌^◌}
use mathlib.Core.Path.{◌≡◌, refl}
use mathlib.Core.List.{List, [], ◌∷◌, map}
use lib.ListN.{length}
use Rattle.spec.specs.Lists.{if}
use Rattle.spec.specs.Opcodes.{row, in_mode}
use Rattle.spec.specs.Walk.{walk, instructions}
use Rattle.spec.specs.Blocks.{cuts, blocks}
use Rattle.spec.specs.Stacks.{read, does, act, trim, run as run-block, through, compose}
use Rattle.spec.specs.Reach.{sweep, spread, closure}
use Rattle.spec.specs.Search.{parents, record_nowhere, record_found, arrive, follow, tries, level, turn, round, rounds, search}
use Rattle.spec.specs.Rooms.{Lent, shortage}
use Rattle.spec.specs.Entries.{entries, bytes}
use Rattle.spec.specs.Answer.{Answer, prepared, searched, mapped, answer}
use Rattle.spec.specs.Program.{lends}
use Rattle.spec.specs.Json.{ascii, decimal, array, way_json, block_json, json, text}
use Rattle.spec.specs.JsonAnswer.{json_answer, texted, exported_json}

-- what the exported call gives, and the text
pub record Call : Type 0 where
  pub number : ℕ
  pub text : List ℕ

abbrev returned : Answer → Call
returned a = record { number = exported_json a; text = texted a }

-- as the program lends, with so many bytes of output
abbrev lent : ℕ → Lent
lent out = record { w = lends.w; p = lends.p; s = lends.s; t = lends.t; r = lends.r; q = lends.q; out = out }

-- the output's and the text buffer's length, a limit, a choice and a code; what comes back
pub data Session : Type 0 where
  call : ℕ → ℕ → ℕ → ℕ → List ℕ → Call → Session

abbrev got : Session → Call
got (call out room limit choice code says) = returned (json_answer (in_mode 0) (lent out) room limit choice code)

abbrev said : Session → Call
said (call out room limit choice code says) = says

-- so many bytes of entries, and this text
abbrev writes : ℕ → List ℕ → Call
writes entries text = record { number = entries + 2 ^ 32 * length text; text = text }

abbrev refuses : ℕ → Call
refuses n = record { number = n; text = [] }

-- 60056007565B005B56
abbrev return : List ℕ
return = 0x60 ∷ 0x05 ∷ 0x60 ∷ 0x07 ∷ 0x56 ∷ 0x5B ∷ 0x00 ∷ 0x5B ∷ 0x56 ∷ []

-- 6005600D565B600B600D565B005B56
abbrev two-callers : List ℕ
two-callers = 0x60 ∷ 0x05 ∷ 0x60 ∷ 0x0D ∷ 0x56 ∷ 0x5B ∷ 0x60 ∷ 0x0B ∷ 0x60 ∷ 0x0D ∷ 0x56 ∷ 0x5B ∷ 0x00 ∷ 0x5B ∷ 0x56 ∷ []

-- 60AA6007565B005B5700: a JUMPI whose target is no JUMPDEST
abbrev astray : List ℕ
astray = 0x60 ∷ 0xAA ∷ 0x60 ∷ 0x07 ∷ 0x56 ∷ 0x5B ∷ 0x00 ∷ 0x5B ∷ 0x57 ∷ 0x00 ∷ []

abbrev pub sessions : List Session
sessions =
    -- the empty code: a head, and no block
    call 1000 2 500000 1 [] (writes 18 (ascii "[]"))
    ∷
    call 1000 1 500000 1 [] (refuses 11)
    ∷
    -- Return, in the room that it needs, and in a byte less
    call 1000 185 500000 1 return (writes 71 (ascii "[{\"id\":0,\"start\":0,\"end\":4,\"type\":\"Jump\",\"data\":{\"to\":7}},{\"id\":5,\"start\":5,\"end\":6,\"type\":\"Terminate\",\"data\":{\"success\":true}},{\"id\":7,\"start\":7,\"end\":8,\"type\":\"Jump\",\"data\":{\"to\":5}}]"))
    ∷
    call 1000 184 500000 1 return (refuses 11)
    ∷
    -- with choice 0: the same text beside four bytes of entries more
    call 75 185 500000 0 return (writes 75 (ascii "[{\"id\":0,\"start\":0,\"end\":4,\"type\":\"Jump\",\"data\":{\"to\":7}},{\"id\":5,\"start\":5,\"end\":6,\"type\":\"Terminate\",\"data\":{\"success\":true}},{\"id\":7,\"start\":7,\"end\":8,\"type\":\"Jump\",\"data\":{\"to\":5}}]"))
    ∷
    call 74 185 500000 0 return (refuses 9)
    ∷
    -- Return, limit 0: a dynamic jump with no path
    call 1000 123 0 1 return (writes 44 (ascii "[{\"id\":0,\"start\":0,\"end\":4,\"type\":\"Jump\",\"data\":{\"to\":7}},{\"id\":7,\"start\":7,\"end\":8,\"type\":\"DynamicJump\",\"data\":{\"to\":[]}}]"))
    ∷
    -- Two callers: two paths
    call 1000 1000 500000 1 two-callers (writes 135 (ascii "[{\"id\":0,\"start\":0,\"end\":4,\"type\":\"Jump\",\"data\":{\"to\":13}},{\"id\":5,\"start\":5,\"end\":10,\"type\":\"Jump\",\"data\":{\"to\":13}},{\"id\":11,\"start\":11,\"end\":12,\"type\":\"Terminate\",\"data\":{\"success\":true}},{\"id\":13,\"start\":13,\"end\":14,\"type\":\"DynamicJump\",\"data\":{\"to\":[{\"path\":[13,0],\"to\":5},{\"path\":[13,5],\"to\":11}]}}]"))
    ∷
    -- a missing destination, and a false side
    call 1000 1000 500000 1 astray (writes 91 (ascii "[{\"id\":0,\"start\":0,\"end\":4,\"type\":\"Jump\",\"data\":{\"to\":7}},{\"id\":7,\"start\":7,\"end\":8,\"type\":\"DynamicJumpi\",\"data\":{\"true_to\":[{\"path\":[7,0],\"to\":null}],\"false_to\":9}},{\"id\":9,\"start\":9,\"end\":9,\"type\":\"Terminate\",\"data\":{\"success\":true}}]"))
    ∷
    -- the entry's refusals come first, 9 too
    call 0 0 500001 1 return (refuses 2)
    ∷
    call 70 184 500000 1 return (refuses 9)
    ∷
    call 71 184 500000 1 return (refuses 11)
    ∷
    []

pub sessions-hold : map got sessions ≡ map said sessions
unfolding if row walk instructions cuts blocks read does act trim run-block through compose sweep spread closure parents record_nowhere record_found arrive follow tries level turn round rounds search shortage entries bytes prepared searched mapped answer decimal array way_json block_json json text json_answer
sessions-hold = refl
