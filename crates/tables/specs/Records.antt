-- The records, in the buffers R, Q and S, and the links between them, in R and W. Assumes nothing.
use Rattle.std.specs.Prelude.{◌≡◌, ℕ, zero, suc, ◌+◌, ◌-◌, ◌*◌, ◌<◌, ◌≤◌, Bool, ◌&&◌, List, [], ◌∷◌, ◌++◌, length, ◌==◌}
use Rattle.spec.specs.Lists.{if, same}
use Rattle.spec.specs.Search.{Found, nowhere, found, Rec}
use Rattle.layout.specs.Fields.{newest_at}
use Rattle.layout.specs.Marks.{NOWHERE}
use Rattle.layout.specs.Parts.{bucket_place}
use Rattle.layout.specs.Records.{RECORD, record_place, start_at, to_at, link_at, sum_at, energy_at, end_of, kept_of}
use Rattle.state.specs.Cells.{stack_at}
use Rattle.tables.specs.Sums.{bucket_of}
use Rattle.tables.specs.Addrs.{addrs, path_sum, Path, Summed}
use Rattle.tables.specs.Chains.{any, Chained}

unfoldable pub bucket_at : ℕ → List ℕ → ℕ → ℕ
bucket_at buckets r i = bucket_of buckets (sum_at r i)

-- ---- the records: the path lies in Q, the state among the kept cells of S, which are counted from the end of the room

unfoldable pub path_at : List ℕ → List ℕ → ℕ → List ℕ
path_at r q i = addrs q (end_of r i) (end_of r (suc i) - end_of r i)

unfoldable pub found_at : List ℕ → List ℕ → ℕ → ℕ → Found
found_at r s room i =
    if (to_at r i == NOWHERE) nowhere (found (to_at r i) (stack_at s (9 * (room - kept_of r (suc i))) (kept_of r (suc i) - kept_of r i)))

unfoldable pub rec_at : List ℕ → List ℕ → List ℕ → ℕ → ℕ → Rec
rec_at r q s room i = record { start = start_at r i; to = found_at r s room i; path = path_at r q i; energy = energy_at r i }

-- the first m
unfoldable pub recs_of : List ℕ → List ℕ → List ℕ → ℕ → ℕ → List Rec
recs_of r q s room zero = []
recs_of r q s room (suc m) = recs_of r q s room m ++ rec_at r q s room m ∷ []

-- record i leads to `to`, or nowhere, by the path; one of the first m does
unfoldable pub is_rec : List ℕ → List ℕ → ℕ → List ℕ → ℕ → Bool
is_rec r q to path i = to == to_at r i && same path (path_at r q i)

abbrev pub has_rec : List ℕ → List ℕ → ℕ → List ℕ → ℕ → Bool
has_rec r q to path m = any (is_rec r q to path) m

-- ---- what holds of them

-- record i stands in R, its path lies in Q, and its sum is its path's
pub record Row (r q : List ℕ) (i : ℕ) : Type 0 where
  pub in_r : record_place i + RECORD ≤ length r
  pub rises : end_of r i ≤ end_of r (suc i)
  pub in_q : 2 * end_of r (suc i) ≤ length q
  pub sum : sum_at r i ≡ path_sum (path_at r q i)

-- every record of a bucket links to the one before it, and W to the newest
pub record Chains (n buckets : ℕ) (w r : List ℕ) (m : ℕ) : Type 0 where
  pub some : 1 ≤ buckets
  pub in_w : bucket_place n buckets ≤ length w
  pub in_r : record_place m ≤ length r
  pub chained : Chained (bucket_at buckets r) (link_at r) (newest_at w n) buckets m

-- what looking up the path of np addresses, with its sum, asks
pub record Seek (p : List ℕ) (np : ℕ) (w r q : List ℕ) (n buckets m sum : ℕ) : Type 0 where
  pub path : Path p 0 np
  pub summed : Summed (addrs p 0 np) sum
  pub rows : (i : ℕ) → i < m → Row r q i
  pub chains : Chains n buckets w r m

-- and comparing it with record i
pub record Compare (p : List ℕ) (np : ℕ) (r q : List ℕ) (i sum : ℕ) : Type 0 where
  pub path : Path p 0 np
  pub summed : Summed (addrs p 0 np) sum
  pub row : Row r q i
