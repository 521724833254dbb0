-- A remembered row in T, 32 bytes: the path's last block (2 bytes), the symbol, in a cell (9), the mark (1), the place and the length of the state in S
-- (4 each), the sum (4), the next row of the same bucket (4), as a row's number and 1 more; and the newest row of the bucket that has the row's number (4),
-- whether or not the row is in use. Assumes nothing.
use Rattle.std.specs.Prelude.{List, ℕ, ◌+◌, ◌*◌}
use Rattle.lent.specs.Bytes.{num_at}

-- the bytes of a row
abbrev pub SEEN : ℕ
SEEN = 32

abbrev pub seen_place : ℕ → ℕ
seen_place i = SEEN * i

-- ---- where a row has its fields

abbrev pub T-SYMBOL : ℕ
T-SYMBOL = 2

abbrev pub T-MARK : ℕ
T-MARK = 11

abbrev pub T-FROM : ℕ
T-FROM = 12

abbrev pub T-CELLS : ℕ
T-CELLS = 16

abbrev pub T-SUM : ℕ
T-SUM = 20

abbrev pub T-LINK : ℕ
T-LINK = 24

abbrev pub T-HEAD : ℕ
T-HEAD = 28

-- ---- the numbers there

abbrev pub block_at : List ℕ → ℕ → ℕ
block_at t i = num_at 2 t (seen_place i)

abbrev pub place_at : List ℕ → ℕ → ℕ
place_at t i = num_at 4 t (seen_place i + T-FROM)

abbrev pub cells_at : List ℕ → ℕ → ℕ
cells_at t i = num_at 4 t (seen_place i + T-CELLS)

abbrev pub row_sum_at : List ℕ → ℕ → ℕ
row_sum_at t i = num_at 4 t (seen_place i + T-SUM)

abbrev pub mark_at : List ℕ → ℕ → ℕ
mark_at t i = num_at 1 t (seen_place i + T-MARK)

-- the sum and the mark, as one number
unfoldable pub stamp_at : List ℕ → ℕ → ℕ
stamp_at t i = row_sum_at t i * 256 + mark_at t i

abbrev pub chain_at : List ℕ → ℕ → ℕ
chain_at t i = num_at 4 t (seen_place i + T-LINK)

abbrev pub top_at : List ℕ → ℕ → ℕ
top_at t h = num_at 4 t (seen_place h + T-HEAD)
