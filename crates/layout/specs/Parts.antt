-- W's parts, for a code of n bytes, one after the other: the rows of the blocks, the rows of the addresses' fields, the worklist, the buckets of records,
-- behind those in use the own states of blocks that were run, the part for runs, and, at the end of what W needs, the list of the blocks' starts. Where each
-- stands, and what it means that it stays. Assumes nothing.
use Rattle.std.specs.Prelude.{◌≡◌, List, ℕ, ◌+◌, ◌*◌, ◌/◌, ◌≤◌, take, drop}

-- ---- where they stand

-- the bytes of a row
abbrev pub ROW : ℕ
ROW = 20

-- the row of the block at a; all of them, from 0 to n
abbrev pub row_place : ℕ → ℕ
row_place a = ROW * a

abbrev pub rows_end : ℕ → ℕ
rows_end n = row_place (n + 1)

-- the fields of the address a: its row, n + 1 rows further
abbrev pub fields_place : ℕ → ℕ → ℕ
fields_place n a = row_place (n + 1 + a)

-- the worklist, and entry i
abbrev pub list_place : ℕ → ℕ
list_place n = 40 * (n + 1)

abbrev pub entry_place : ℕ → ℕ → ℕ
entry_place n i = list_place n + 2 * i

-- the buckets, and bucket h
abbrev pub buckets_place : ℕ → ℕ
buckets_place n = 42 * (n + 1)

abbrev pub bucket_place : ℕ → ℕ → ℕ
bucket_place n h = buckets_place n + 4 * h

-- how many buckets there is room for: 9 bytes for each address, and of the 256 bytes as many as the links, the part for runs, 9 * (n + 17), and the list
-- of starts leave
abbrev pub buckets_of : ℕ → ℕ
buckets_of n = (9 * n + 52) / 4

-- behind so many buckets the own states: the link of the address a, how many cells are in use, and cell i
abbrev pub link_place : ℕ → ℕ → ℕ → ℕ
link_place n buckets a = bucket_place n buckets + 2 * a

abbrev pub filled_place : ℕ → ℕ → ℕ
filled_place n buckets = link_place n buckets (n + 1)

abbrev pub cell_place : ℕ → ℕ → ℕ → ℕ
cell_place n buckets i = filled_place n buckets + 4 + 9 * i

-- the list of the blocks' starts, and entry i
abbrev pub starts_place : ℕ → ℕ
starts_place n = 62 * n + 254

abbrev pub start_place : ℕ → ℕ → ℕ
start_place n i = starts_place n + 2 * i

-- ---- one of them stays, where w becomes w'

abbrev pub SameRows : ℕ → List ℕ → List ℕ → Type 0
SameRows n w w' = take (rows_end n) w' ≡ take (rows_end n) w

-- of the fields of each address, its first k bytes, and k bytes from the byte o on
abbrev pub SameStart : ℕ → ℕ → List ℕ → List ℕ → Type 0
SameStart k n w w' = (a : ℕ) → a ≤ n → take k (drop (fields_place n a) w') ≡ take k (drop (fields_place n a) w)

abbrev pub SameFields : ℕ → ℕ → ℕ → List ℕ → List ℕ → Type 0
SameFields k o n w w' = (a : ℕ) → a ≤ n → take k (drop (fields_place n a + o) w') ≡ take k (drop (fields_place n a + o) w)

abbrev pub SameList : ℕ → List ℕ → List ℕ → Type 0
SameList n w w' = take (2 * (n + 1)) (drop (list_place n) w') ≡ take (2 * (n + 1)) (drop (list_place n) w)

-- all that is past the rows, past the fields, past the worklist, past so many buckets
abbrev pub PastRows : ℕ → List ℕ → List ℕ → Type 0
PastRows n w w' = drop (rows_end n) w' ≡ drop (rows_end n) w

abbrev pub PastFields : ℕ → List ℕ → List ℕ → Type 0
PastFields n w w' = drop (list_place n) w' ≡ drop (list_place n) w

abbrev pub PastList : ℕ → List ℕ → List ℕ → Type 0
PastList n w w' = drop (buckets_place n) w' ≡ drop (buckets_place n) w

abbrev pub PastBuckets : ℕ → ℕ → List ℕ → List ℕ → Type 0
PastBuckets n buckets w w' = drop (bucket_place n buckets) w' ≡ drop (bucket_place n buckets) w
