-- Document 01, "Lent buffers, and what comes back": the refusals in their order, and the whole answer. Assumes nothing.
use Rattle.std.specs.Prelude.{ℕ, zero, suc, ◌||◌, List, [], ◌++◌, eqb, leb, ltb, length, drop, replicate}
use Rattle.spec.specs.Lists.{if, within}
use Rattle.spec.specs.Opcodes.{Rules}
use Rattle.spec.specs.Walk.{instructions}
use Rattle.spec.specs.Blocks.{blocks}
use Rattle.spec.specs.Search.{Node, nodes, St, search}
use Rattle.spec.specs.Ending.{finals, pruned}
use Rattle.spec.specs.Rooms.{longest, work_need, Lent, units, shortage}
use Rattle.spec.specs.Entries.{Map, bytes}

pub data Answer : Type 0 where
  refused : ℕ → Answer
  answered : Map → Answer

-- "A call returns the number and the bytes written, 0 if refused"
abbrev pub number_of : Answer → ℕ
number_of (refused n) = n
number_of (answered m) = 0

abbrev pub written : Answer → List ℕ
written (refused n) = []
written (answered m) = bytes m

-- the blocks of a code, each with its own run
unfoldable pub prepared : Rules → List ℕ → List Node
prepared r code = let is = instructions code in nodes r code is (blocks r.row code is)

-- the search's end
unfoldable pub searched : Rules → ℕ → List ℕ → St
searched r limit code = search limit (prepared r code)

-- the map that it gives; "Kind 8 is still written if the caller's choice number is not 0"
unfoldable pub mapped : Rules → ℕ → List ℕ → St → Map
mapped r choice code s =
    record { size = length code; energy = s.energy; blocks = pruned (finals (prepared r code) s.recs); recs = s.recs; numbered = eqb choice 0 }

-- "9 comes last"; the output's units are bytes
abbrev pub within_out : Lent → Map → Answer
within_out l m = if (leb (length (bytes m)) (units l.out 1)) (answered m) (refused 9)

-- 4 to 8: the first shortage met
abbrev pub within_rooms : Answer → ℕ → Answer
within_rooms ok zero = ok
within_rooms ok (suc n) = refused (suc n)

-- "1, 2, 3 are tested in that order"; "13, mode neither 0 nor 1, tested after 2"
unfoldable pub answer : Rules → Lent → ℕ → ℕ → List ℕ → Answer
answer r l limit choice code =
    let s = searched r limit code in
    let ok = within_out l (mapped r choice code s) in
    let run = within_rooms ok (shortage l s.needs) in
    if (ltb longest (length code)) (refused 1)
    (if (ltb 500000 limit) (refused 2)
    (if (ltb 1 r.mode) (refused 13)
    (if (ltb l.w (work_need (length code))) (refused 3) run)))

-- ---- what a call leaves in the lent buffers, and what the exported entry gives

-- "On 0 and 4 to 9, W, P, S, T, R, Q are all zero bytes on return"; 1, 2, 13 and 3 "touch nothing"
abbrev pub room_after : Answer → List ℕ → List ℕ
room_after a b = if (within 1 3 (number_of a) || eqb (number_of a) 13) b (replicate (length b) 0)

-- "On 0 the output holds the answer and its other bytes stay"; refused, all of them do
abbrev pub output_after : Answer → List ℕ → List ℕ
output_after a out = written a ++ drop (length (written a)) out

-- "the exported entry gives whichever isn't 0"
abbrev pub exported : Answer → ℕ
exported (refused n) = n
exported (answered m) = length (bytes m)
