-- The fields of an address in W, and the worklist and the buckets behind them. A mark (4 bytes), 0 for an address never reached, else one more than the
-- number of records when it was; the first and the last found parent (4 each), as a record's number and 1 more; the count on the path in hand (4); the
-- highest direct parent that is marked (2), as its start and 1 more; a flag (1 byte), not 0 once the address's own sides have been followed or wait to be;
-- 1 byte spare. Assumes nothing.
use Rattle.std.specs.Prelude.{List, ℕ, ◌+◌}
use Rattle.lent.specs.Bytes.{num_at}
use Rattle.layout.specs.Parts.{fields_place, entry_place, bucket_place}

-- ---- where an address has its fields

abbrev pub FIRST-FOUND : ℕ
FIRST-FOUND = 4

abbrev pub LAST-FOUND : ℕ
LAST-FOUND = 8

abbrev pub COUNT : ℕ
COUNT = 12

abbrev pub HIGHEST : ℕ
HIGHEST = 16

abbrev pub FLAG : ℕ
FLAG = 18

abbrev pub LAST : ℕ
LAST = 19

-- after the search: the note in the place of the count, and then in that of found parents the first rows of edges
abbrev pub NOTE : ℕ
NOTE = 12

abbrev pub HEADS : ℕ
HEADS = 4

-- ---- the numbers there

abbrev pub mark_at : List ℕ → ℕ → ℕ → ℕ
mark_at w n a = num_at 4 w (fields_place n a)

abbrev pub first_found_at : List ℕ → ℕ → ℕ → ℕ
first_found_at w n a = num_at 4 w (fields_place n a + FIRST-FOUND)

abbrev pub last_found_at : List ℕ → ℕ → ℕ → ℕ
last_found_at w n a = num_at 4 w (fields_place n a + LAST-FOUND)

abbrev pub count_at : List ℕ → ℕ → ℕ → ℕ
count_at w n a = num_at 4 w (fields_place n a + COUNT)

abbrev pub high_at : List ℕ → ℕ → ℕ → ℕ
high_at w n a = num_at 2 w (fields_place n a + HIGHEST)

abbrev pub flag_at : List ℕ → ℕ → ℕ → ℕ
flag_at w n a = num_at 1 w (fields_place n a + FLAG)

abbrev pub note_at : List ℕ → ℕ → ℕ → ℕ
note_at w n a = num_at 4 w (fields_place n a + NOTE)

-- the first row of edges of an address, by their place, for `by` 0, or by their witness, for `by` 4
abbrev pub head_at : List ℕ → ℕ → ℕ → ℕ → ℕ
head_at w n by x = num_at 4 w (fields_place n x + (HEADS + by))

-- ---- entry i of the worklist, an address, and the newest record of bucket h, as its number and 1 more

abbrev pub entry_at : List ℕ → ℕ → ℕ → ℕ
entry_at w n i = num_at 2 w (entry_place n i)

abbrev pub newest_at : List ℕ → ℕ → ℕ → ℕ
newest_at w n h = num_at 4 w (bucket_place n h)
