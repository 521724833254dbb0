-- A record's row in R, 32 bytes: start (2 bytes), destination (2), the ends of its path in Q and of its kept cells in S (4 each), the next found parent of
-- the same destination and the next record of the same bucket (4 each), as a record's number and 1 more, its path's sum (4), its number, which is
-- the energy when it was made (4); 4 bytes are free. Assumes nothing.
use Rattle.std.specs.Prelude.{List, ℕ, zero, suc, ◌+◌, ◌*◌}
use Rattle.lent.specs.Bytes.{num_at}

-- the bytes of a row
abbrev pub RECORD : ℕ
RECORD = 32

abbrev pub record_place : ℕ → ℕ
record_place i = RECORD * i

-- ---- where a row has its fields

abbrev pub R-TO : ℕ
R-TO = 2

abbrev pub R-ENDS : ℕ
R-ENDS = 4

abbrev pub R-KEPT : ℕ
R-KEPT = 8

abbrev pub R-NEXT : ℕ
R-NEXT = 12

abbrev pub R-LINK : ℕ
R-LINK = 16

abbrev pub R-SUM : ℕ
R-SUM = 20

abbrev pub R-ENERGY : ℕ
R-ENERGY = 24

abbrev pub R-FREE : ℕ
R-FREE = 28

-- ---- the numbers there

abbrev pub start_at : List ℕ → ℕ → ℕ
start_at r i = num_at 2 r (record_place i)

abbrev pub to_at : List ℕ → ℕ → ℕ
to_at r i = num_at 2 r (record_place i + R-TO)

abbrev pub next_at : List ℕ → ℕ → ℕ
next_at r i = num_at 4 r (record_place i + R-NEXT)

abbrev pub link_at : List ℕ → ℕ → ℕ
link_at r i = num_at 4 r (record_place i + R-LINK)

abbrev pub sum_at : List ℕ → ℕ → ℕ
sum_at r i = num_at 4 r (record_place i + R-SUM)

abbrev pub energy_at : List ℕ → ℕ → ℕ
energy_at r i = num_at 4 r (record_place i + R-ENERGY)

abbrev pub free_at : List ℕ → ℕ → ℕ
free_at r i = num_at 4 r (record_place i + R-FREE)

-- the addresses in Q, and the kept cells in S, of the first i records
unfoldable pub end_of : List ℕ → ℕ → ℕ
end_of r zero = 0
end_of r (suc i) = num_at 4 r (record_place i + R-ENDS)

unfoldable pub kept_of : List ℕ → ℕ → ℕ
kept_of r zero = 0
kept_of r (suc i) = num_at 4 r (record_place i + R-KEPT)
