-- A new record's row and its links: what is stored, and what it leaves as it was. Assumes nothing.
use Rattle.std.specs.Prelude.{◌≡◌, ℕ, suc, ◌+◌, ◌^◌, ◌<◌, ◌≤◌, List, ◌++◌, length, drop, IfSome}
use Rattle.std.specs.Option.{unwrap_or}
use Rattle.spec.specs.Lists.{little}
use Rattle.layout.specs.Fields.{COUNT, first_found_at, last_found_at}
use Rattle.layout.specs.Marks.{NOWHERE}
use Rattle.layout.specs.Parts.{list_place, SameRows, SameStart, SameFields, SameList, PastFields, PastBuckets}
use Rattle.layout.specs.Records.{RECORD, record_place, R-FREE, start_at, to_at, next_at, link_at, sum_at, energy_at, free_at, end_of, kept_of}
use Rattle.tables.specs.Chains.{Ordered}
use Rattle.tables.specs.Records.{Chains}
use Rattle.tables.specs.declared.link.Fields.{Fields}

-- the first 28 bytes of a row, of a record with no next parent; the other 4 are free
unfoldable pub says_bytes : Fields → List ℕ
says_bytes f = ((little 2 f.start ++ little 2 (unwrap_or f.to NOWHERE)) ++ little 4 f.ends) ++ little 4 f.kept

unfoldable pub link_bytes : ℕ → ℕ → ℕ → List ℕ
link_bytes link sum energy = ((little 4 0 ++ little 4 link) ++ little 4 sum) ++ little 4 energy

unfoldable pub row_bytes : Fields → ℕ → List ℕ
row_bytes f link = says_bytes f ++ link_bytes link f.sum f.energy

-- every field of record i is as it was, but for the link to the next found parent
pub record SameRow (r r' : List ℕ) (i : ℕ) : Type 0 where
  pub start : start_at r' i ≡ start_at r i
  pub to : to_at r' i ≡ to_at r i
  pub ends : end_of r' (suc i) ≡ end_of r (suc i)
  pub kept : kept_of r' (suc i) ≡ kept_of r (suc i)
  pub link : link_at r' i ≡ link_at r i
  pub sum : sum_at r' i ≡ sum_at r i
  pub energy : energy_at r' i ≡ energy_at r i
  pub free : free_at r' i ≡ free_at r i

-- record m says f
pub record Says (r : List ℕ) (m : ℕ) (f : Fields) : Type 0 where
  pub start : start_at r m ≡ f.start
  pub to : to_at r m ≡ unwrap_or f.to NOWHERE
  pub ends : end_of r (suc m) ≡ f.ends
  pub kept : kept_of r (suc m) ≡ f.kept
  pub sum : sum_at r m ≡ f.sum
  pub energy : energy_at r m ≡ f.energy

-- the found parents of each address up to n, in the order of recording
abbrev pub Parents : ℕ → List ℕ → List ℕ → ℕ → Type 0
Parents n w r m = Ordered (to_at r) (next_at r) (first_found_at w n) (last_found_at w n) n m

-- W is as it was before the rows of the addresses, and in each of them but for its first and its last found parent
pub record Apart (n : ℕ) (w w' : List ℕ) : Type 0 where
  pub front : SameRows n w w'
  pub marks : SameStart 4 n w w'
  pub rests : SameFields 8 COUNT n w w'
  pub long : length w' ≡ length w

-- and after them, but for the buckets
pub record Beyond (n buckets : ℕ) (w w' : List ℕ) : Type 0 where
  pub apart : Apart n w w'
  pub work : SameList n w w'
  pub back : PastBuckets n buckets w w'

-- record m stands in R, on no chain of found parents yet
pub record Joins (n : ℕ) (w r : List ℕ) (a m : ℕ) : Type 0 where
  pub parents : Parents n w r m
  pub inside : a ≤ n
  pub to : to_at r m ≡ a
  pub next : next_at r m ≡ 0
  pub in_w : list_place n ≤ length w
  pub in_r : record_place m + RECORD ≤ length r
  pub small : m + 1 < 2 ^ 32

-- now it is on the chain
pub record Joined (n : ℕ) (w r : List ℕ) (m : ℕ) (w' r' : List ℕ) : Type 0 where
  pub parents : Parents n w' r' (suc m)
  pub rows : (i : ℕ) → SameRow r r' i
  pub tail : drop (record_place m) r' ≡ drop (record_place m) r
  pub long : length r' ≡ length r
  pub apart : Apart n w w'
  pub back : PastFields n w w'

-- what is to be said fits its fields
pub record Sayable (n : ℕ) (f : Fields) : Type 0 where
  pub start : f.start < 2 ^ 16
  pub to : IfSome f.to (λ a. a ≤ n)
  pub ends : f.ends < 2 ^ 32
  pub kept : f.kept < 2 ^ 32
  pub sum : f.sum < 2 ^ 32
  pub energy : f.energy < 2 ^ 32

pub record Links (n buckets : ℕ) (w r : List ℕ) (m : ℕ) (f : Fields) : Type 0 where
  pub chains : Chains n buckets w r m
  pub parents : Parents n w r m
  pub says : Sayable n f
  pub in_r : record_place m + RECORD ≤ length r
  pub few : n < NOWHERE
  pub small : m + 1 < 2 ^ 32

-- the row stands in R, and on its chains; the rows before it, and what is after it, are as they were
pub record Linked (n buckets : ℕ) (w r : List ℕ) (m : ℕ) (f : Fields) (w' r' : List ℕ) : Type 0 where
  pub chains : Chains n buckets w' r' (suc m)
  pub parents : Parents n w' r' (suc m)
  pub says : Says r' m f
  pub rows : (i : ℕ) → i < m → SameRow r r' i
  pub tail : drop (record_place m + R-FREE) r' ≡ drop (record_place m + R-FREE) r
  pub long : length r' ≡ length r
  pub beyond : Beyond n buckets w w'
