-- Marks, which say when an address of W was reached, flags, which say whether its own sides have been followed or wait to be, and the worklist. Assumes
-- nothing.
use Rattle.std.specs.Prelude.{Bool, not, ◌&&◌, List, [], ◌∷◌, ℕ, zero, suc, eqb, ltb, leb, replicate}
use Rattle.spec.specs.Lists.{if}
use Rattle.lent.specs.Bytes.{patch}
use Rattle.layout.specs.Fields.{mark_at, flag_at, entry_at}
use Rattle.layout.specs.Parts.{rows_end}

-- the addresses below m where a number is not 0
unfoldable pub set_below : (ℕ → ℕ) → ℕ → List ℕ
set_below f zero = []
set_below f (suc m) =
    let below = set_below f m in
    if (eqb (f m) 0) below (m ∷ below)

-- the addresses that are flagged
unfoldable pub flagged : List ℕ → ℕ → List ℕ
flagged w n = set_below (flag_at w n) (suc n)

-- the first entries of the worklist, the last of them first
unfoldable pub entries : List ℕ → ℕ → ℕ → List ℕ
entries w n zero = []
entries w n (suc i) = entry_at w n i ∷ entries w n i

-- W with every mark, flag and field of others 0
abbrev pub wiped : ℕ → List ℕ → List ℕ
wiped n w = patch w (rows_end n) (replicate (rows_end n) 0)

-- the address was reached when there were at most by - 1 records
abbrev pub marked_by : List ℕ → ℕ → ℕ → ℕ → Bool
marked_by w n a by = ltb 0 (mark_at w n a) && leb (mark_at w n a) by

-- the mark of an address that was flagged or not, and is now or not: an address newly flagged gets a mark, if it has none
abbrev pub remark : ℕ → Bool → Bool → ℕ → ℕ
remark when was is m = if (is && not was && eqb m 0) when m
