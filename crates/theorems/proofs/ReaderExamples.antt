-- Document 02, "No. 2": what the reader says of the map of `60056007565B005B56`, and of it with one thing changed for each thing that is bad; one table
-- under one claim. Assumes nothing.
use Prim.Native.Nat.{ℕ, zero, suc, ◌/◌, ◌%◌, ◌^◌}
use mathlib.Core.Path.{◌≡◌, refl}
use mathlib.Core.Bool.{true, false}
use mathlib.Core.List.{List, [], ◌∷◌, ◌++◌, map}
use Rattle.spec.specs.Lists.{if, number}
use Rattle.spec.specs.Blocks.{terminate, jump, dynamic_jump, block}
use Rattle.spec.specs.Stacks.{entry}
use Rattle.spec.specs.Search.{nowhere, found}
use Rattle.spec.specs.Entries.{Map, entries, bytes as written-bytes}
use Rattle.spec.specs.Forms.{sort}
use Rattle.spec.specs.Reader.{Reading, holds, bad, pieces, sevens, first_bad, addresses, items, ways, finals_in, recs_in, numbered_in, reading, read}

-- n bytes, as the hexadecimal number that they spell
abbrev hex : ℕ → ℕ → List ℕ
hex zero v = []
hex (suc n) v = ((v / 256 ^ n) % 256) ∷ hex n v

-- the entries of the map, by their offsets: 0, 18, 30, 41, 53
abbrev the-head : List ℕ
the-head = hex 18 0x0c0000000100090003000100000002000000

abbrev block_0 : List ℕ
block_0 = hex 12 0x060000000300000004000700

abbrev block_5 : List ℕ
block_5 = hex 11 0x0500000002000500060001

abbrev block-7 : List ℕ
block-7 = hex 12 0x060000000300070008000500

abbrev the-record : List ℕ
the-record = hex 18 0x0c0000000800070005000200000007000000

-- 53 bytes: the head and the blocks
abbrev with_blocks : List ℕ
with_blocks = the-head ++ block_0 ++ block_5 ++ block-7

-- block 7 as a DynamicJump of a count, and as a DynamicJumpi of it; a 7 of 16 bytes
abbrev dynamic-7 : ℕ → List ℕ
dynamic-7 n = hex 10 0x08000000050007000800 ++ (n ∷ 0 ∷ 0 ∷ 0 ∷ [])

abbrev dynamici-7 : ℕ → List ℕ
dynamici-7 n = hex 12 0x0a0000000600070008000900 ++ (n ∷ 0 ∷ 0 ∷ 0 ∷ [])

abbrev seven : List ℕ
seven = hex 16 0x0a000000070005000200000007000000

-- 41 bytes
abbrev before-7 : List ℕ
before-7 = the-head ++ block_0 ++ block_5

pub record Case : Type 0 where
  bytes : List ℕ
  says : Reading

abbrev case : List ℕ → ℕ → Case
case b o = record { bytes = b; says = bad o }

abbrev the-map : Map
the-map = record {
  size = 9;
  energy = 2;
  blocks =
      record { block = block 0 0 4 (jump 7); entries = [] }
      ∷ record { block = block 5 5 6 (terminate true); entries = [] }
      ∷ record { block = block 7 7 8 (jump 5); entries = [] }
      ∷ [];
  recs = record { start = 7; to = found 5 entry; path = 7 ∷ 0 ∷ []; energy = 0 } ∷ [];
  numbered = false;
}

-- the record with its number, 2
abbrev numbered-record : List ℕ
numbered-record = hex 22 0x10000000090007000500020000000200000007000000

abbrev numbered-map : Map
numbered-map = record {
  size = the-map.size;
  energy = the-map.energy;
  blocks = the-map.blocks;
  recs = record { start = 7; to = found 5 entry; path = 7 ∷ 0 ∷ []; energy = 2 } ∷ [];
  numbered = true;
}

abbrev pub cases : List Case
cases =
    record { bytes = with_blocks ++ the-record; says = holds the-map }
    ∷
    record { bytes = with_blocks ++ numbered-record; says = holds numbered-map }
    ∷
    -- after one of 8 and 9 the other
    case (with_blocks ++ the-record ++ numbered-record) 71 ∷ case (with_blocks ++ numbered-record ++ the-record) 75
    ∷
    -- a missing head: no byte; another kind
    case [] 0 ∷ case (block_0 ++ block_5 ++ block-7 ++ the-record) 0
    ∷
    -- heads whose counts disagree: blocks, records; looked at last
    case (the-head ++ block_0 ++ block_5 ++ the-record) 0 ∷ case with_blocks 0 ∷ case (with_blocks ++ the-record ++ the-record ++ (1 ∷ [])) 89
    ∷
    -- entries out of order: a second head, a block after a record
    case (with_blocks ++ the-head) 53 ∷ case (before-7 ++ the-record ++ block-7) 59
    ∷
    -- a block start not above the one before: equal, below
    case (with_blocks ++ block-7 ++ the-record) 53 ∷ case (the-head ++ block_0 ++ block-7 ++ block_5 ++ the-record) 42
    ∷
    -- unknown kinds: 0, 10, 256
    case (with_blocks ++ hex 6 0x000000000000) 53 ∷ case (with_blocks ++ hex 6 0x000000000a00) 53 ∷ case (with_blocks ++ hex 6 0x000000000001) 53
    ∷
    -- kind 7 away from a dynamic block: behind a Jump, behind a record
    case (with_blocks ++ seven ++ the-record) 53 ∷ case (before-7 ++ dynamic-7 1 ++ seven ++ the-record ++ seven) 89
    ∷
    -- a success byte over 1
    case (the-head ++ block_0 ++ hex 11 0x0500000002000500060002 ++ block-7 ++ the-record) 30
    ∷
    -- a dynamic count its 7s do not meet: one too many, one too few; of a DynamicJumpi; "only whole 7s count"
    case (before-7 ++ dynamic-7 0 ++ seven ++ the-record) 41 ∷ case (before-7 ++ dynamic-7 2 ++ seven ++ the-record) 41
    ∷ case (before-7 ++ dynamici-7 2 ++ seven ++ the-record) 41 ∷ case (before-7 ++ dynamic-7 2 ++ seven ++ hex 7 0x0a000000070005) 41
    ∷
    -- a cut 7 behind a count that is met, and a whole one of the wrong length, which counts
    case (before-7 ++ dynamic-7 1 ++ seven ++ hex 7 0x0a000000070005) 71 ∷ case (before-7 ++ dynamic-7 2 ++ seven ++ hex 7 0x01000000070005 ++ the-record) 71
    ∷
    -- cut entries: a body, the leading bytes; a length that no bytes have
    case (with_blocks ++ hex 17 0x0c00000008000700050002000000070000) 53 ∷ case (with_blocks ++ hex 5 0x0c00000008) 53 ∷ case (hex 7 0xffffffff010009) 0
    ∷
    -- bodies longer or shorter than their kind says; 8 by the path length that it announces
    case (hex 19 0x0d000000010009000300010000000200000000) 0 ∷ case (the-head ++ hex 11 0x0500000003000000040007) 18
    ∷ case (with_blocks ++ hex 18 0x0c0000000800070005000300000007000000) 53 ∷ case (with_blocks ++ hex 12 0x060000000800070005000200) 53
    ∷ []

-- a code of 24,577 bytes: its head; a record of kind 11, of kind 12; a 10 to 5, and to none
abbrev wide-head : List ℕ
wide-head = hex 18 0x0c0000000100016003000100000002000000

-- the head of a code of 24,576 bytes
abbrev border-head : List ℕ
border-head = hex 18 0x0c0000000100006003000100000002000000

abbrev border-map : Map
border-map = record { size = 24576; energy = the-map.energy; blocks = the-map.blocks; recs = the-map.recs; numbered = false }

abbrev wide-before-7 : List ℕ
wide-before-7 = wide-head ++ block_0 ++ block_5

abbrev eleven : List ℕ
eleven = hex 18 0x0c0000000b00070005000200000007000000

abbrev twelve : List ℕ
twelve = hex 22 0x100000000c0007000500020000000200000007000000

abbrev ten : ℕ → List ℕ
ten t = hex 6 0x0a0000000a00 ++ (t % 256 ∷ t / 256 ∷ []) ++ hex 8 0x0200000007000000

abbrev wide-map : Map
wide-map = record { size = 24577; energy = the-map.energy; blocks = the-map.blocks; recs = the-map.recs; numbered = false }

abbrev wide-numbered : Map
wide-numbered = record { size = 24577; energy = the-map.energy; blocks = the-map.blocks; recs = numbered-map.recs; numbered = true }

abbrev wide-ways : Map
wide-ways = record {
  size = 24577;
  energy = the-map.energy;
  blocks =
      record { block = block 0 0 4 (jump 7); entries = [] }
      ∷ record { block = block 5 5 6 (terminate true); entries = [] }
      ∷ record {
        block = block 7 7 8 dynamic_jump;
        entries =
            record { start = 7; to = found 0x8000 entry; path = 7 ∷ 0 ∷ []; energy = 0 }
            ∷ record { start = 7; to = nowhere; path = 7 ∷ 0 ∷ []; energy = 0 }
            ∷ [];
      }
      ∷ [];
  recs = the-map.recs;
  numbered = false;
}

abbrev wide-cases : List Case
wide-cases =
    record { bytes = wide-before-7 ++ block-7 ++ eleven; says = holds wide-map }
    ∷ record { bytes = wide-before-7 ++ block-7 ++ twelve; says = holds wide-numbered }
    ∷ record { bytes = wide-before-7 ++ dynamic-7 2 ++ ten 0x8000 ++ ten 0xFFFF ++ eleven; says = holds wide-ways }
    ∷ record { bytes = border-head ++ block_0 ++ block_5 ++ block-7 ++ the-record; says = holds border-map }
    ∷
    -- a kind of the other family, either way; it is no whole 7 of the block before it
    case (wide-before-7 ++ block-7 ++ the-record) 53 ∷ case (with_blocks ++ eleven) 53 ∷ case (border-head ++ block_0 ++ block_5 ++ block-7 ++ eleven) 53
    ∷ case (wide-before-7 ++ dynamic-7 1 ++ seven ++ eleven) 41 ∷ case (wide-before-7 ++ dynamic-7 0 ++ seven ++ eleven) 55
    ∷ case (before-7 ++ dynamic-7 0 ++ ten 5 ++ the-record) 55
    ∷
    -- after an 11 a 12, and after a 12 an 11
    case (wide-before-7 ++ block-7 ++ eleven ++ twelve) 71 ∷ case (wide-before-7 ++ block-7 ++ twelve ++ eleven) 75
    ∷ []

-- what is written of them
pub wide-written : map written-bytes (wide-map ∷ wide-numbered ∷ wide-ways ∷ border-map ∷ [])
    ≡ (wide-before-7 ++ block-7 ++ eleven) ∷ (wide-before-7 ++ block-7 ++ twelve) ∷ (wide-before-7 ++ dynamic-7 2 ++ ten 0x8000 ++ ten 0xFFFF ++ eleven)
    ∷ (border-head ++ block_0 ++ block_5 ++ block-7 ++ the-record) ∷ []
unfolding entries written-bytes if
wide-written = refl

pub wide_read : map (λ (c : Case). read c.bytes) wide-cases ≡ map (λ (c : Case). c.says) wide-cases
unfolding read reading pieces sevens first_bad addresses items ways finals_in recs_in numbered_in number sort if
wide_read = refl

pub read-cases : map (λ (c : Case). read c.bytes) cases ≡ map (λ (c : Case). c.says) cases
unfolding read reading pieces sevens first_bad addresses items ways finals_in recs_in numbered_in number sort if
read-cases = refl
