-- R after the search: the row of a record as an edge. Place (2 bytes), which is the record's start, to (2, `NOWHERE` for no edge), witness (2), the record's
-- own destination (2), two links (4 each), for the next row of the same place and of the same witness, the end of the record's path in Q (4); 4 bytes are
-- free, the record's number stands where it stood (4), and 4 are free. A link, like the first row of an address, is a row's number and 1 more, and 0 for none. Assumes nothing.
use Rattle.std.specs.Prelude.{List, ℕ, zero, suc, ◌+◌}
use Rattle.lent.specs.Bytes.{num_at}
use Rattle.layout.specs.Records.{record_place}

-- ---- where a row has its fields

abbrev pub E-TO : ℕ
E-TO = 2

abbrev pub E-WITNESS : ℕ
E-WITNESS = 4

abbrev pub E-OWN : ℕ
E-OWN = 6

abbrev pub E-LINKS : ℕ
E-LINKS = 8

abbrev pub E-ENDS : ℕ
E-ENDS = 16

-- ---- the numbers there

-- the place of row i, for `by` 0, or its witness, for `by` 4, and the next row of the same
abbrev pub key_at : List ℕ → ℕ → ℕ → ℕ
key_at r by i = num_at 2 r (record_place i + by)

abbrev pub link_at : List ℕ → ℕ → ℕ → ℕ
link_at r by i = num_at 4 r (record_place i + (E-LINKS + by))

abbrev pub to_at : List ℕ → ℕ → ℕ
to_at r i = num_at 2 r (record_place i + E-TO)

abbrev pub goal_of : List ℕ → ℕ → ℕ
goal_of r i = num_at 2 r (record_place i + E-OWN)

-- where the path of record i ends in Q, counted in addresses: that of the one before is where the next begins
unfoldable pub end_at : List ℕ → ℕ → ℕ
end_at r zero = 0
end_at r (suc i) = num_at 4 r (record_place i + E-ENDS)
