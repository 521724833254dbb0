-- Document 02, No. 13: "Then let a round hand its targets over in batches of 64." Assumes nothing.
use Rattle.std.specs.Prelude.{◌≡◌, List, ℕ, ◌+◌, ◌-◌, ◌≤◌, ◌<◌, length, take}
use Rattle.layout.specs.Records.{record_place}
use Rattle.reachable.specs.Promises.{Expanded}
use Rattle.resolver.specs.Turns.{dests_from}
use Rattle.resolver.specs.declared.settle.Batch.{Batch}

pub record Gathers (r : List ℕ) (from records : ℕ) (batch : List ℕ) : Type 0 where
  pub left : from < records
  pub in_r : record_place records ≤ length r
  pub few : records ≤ 1073741824
  pub long : length batch ≡ 64

-- the targets of the records before `next`: 64, or fewer where no record is left
pub record Gathered (r : List ℕ) (from records : ℕ) (batch : List ℕ) (b : Batch) : Type 0 where
  pub on : from < b.next
  pub most : b.next ≤ records
  pub are : take b.many batch ≡ dests_from r from (b.next - from)
  pub few : b.many ≤ 64
  pub full : b.next < records → b.many ≡ 64
  pub long : length batch ≡ 64

-- so the flags grow by them
pub record HandedOver (n : ℕ) (w r : List ℕ) (from records : ℕ) (w' : List ℕ) (next : ℕ) : Type 0 where
  pub on : from < next
  pub most : next ≤ records
  pub few : length (dests_from r from (next - from)) ≤ 64
  pub full : next < records → length (dests_from r from (next - from)) ≡ 64
  pub expanded : Expanded n w (dests_from r from (next - from)) (records + 1) w'
