-- The border to the answer: what stands in W and R once the blocks are merged, the rows of edges made, and what is reached flagged. Assumes nothing.
use Rattle.std.specs.Prelude.{◌≡◌, List, [], ◌∷◌, map, ℕ, suc, ◌+◌, ◌-◌, ◌*◌, ◌^◌, ◌≤◌, ◌<◌, length, drop}
use Rattle.spec.specs.Opcodes.{in_mode}
use Rattle.spec.specs.Lists.{mem, last_of}
use Rattle.spec.specs.Reach.{closure}
use Rattle.spec.specs.Stacks.{Stack}
use Rattle.spec.specs.Search.{Rec, found}
use Rattle.spec.specs.Ending.{Final, finals, final_edges}
use Rattle.spec.specs.Answer.{prepared}
use Rattle.lent.specs.Bytes.{num_at}
use Rattle.layout.specs.Edges.{E-WITNESS, E-OWN, end_at}
use Rattle.layout.specs.Marks.{NOWHERE, to_number}
use Rattle.layout.specs.Records.{RECORD, record_place, energy_at}
use Rattle.initial.specs.Rows.{blocks_at}
use Rattle.tables.specs.Addrs.{addrs}
use Rattle.reachable.specs.Marks.{flagged}
use Rattle.reachable.specs.Promises.{Room}
use Rattle.reachable.specs.Pruning.{Chains}

-- R after the rewriting: row i of m, against the record x
pub record EdgeOf (n : ℕ) (w r q : List ℕ) (i : ℕ) (x : Rec) : Type 0 where
  pub start : num_at 2 r (record_place i) ≡ x.start
  pub to : num_at 2 r (record_place i + E-OWN) ≡ to_number x.to
  pub last : num_at 2 r (record_place i + E-WITNESS) ≡ last_of x.path
  pub path : addrs q (end_at r i) (end_at r (suc i) - end_at r i) ≡ x.path
  pub energy : energy_at r i ≡ x.energy
  pub rises : end_at r i ≤ end_at r (suc i)
  pub in_q : 2 * end_at r (suc i) ≤ length q
  pub in_r : record_place i + RECORD ≤ length r
  pub starts : x.start ≤ n
  pub lands : (t : ℕ) (s : Stack) → x.to ≡ found t s → t ≤ n

-- what `graph` leaves: the finals of document 01, and its records
pub record Finished (mode : ℕ) (code : List ℕ) (recs : List Rec) (w r q : List ℕ) : Type 0 where
  pub blocks : blocks_at w (length code) ≡ map (λ (f : Final). f.block) (finals (prepared (in_mode mode) code) recs)
  pub rows : (i : ℕ) → i < length recs → (x : Rec) (rest : List Rec) → drop i recs ≡ x ∷ rest → EdgeOf (length code) w r q i x
  pub kept : (a : ℕ) → a ≤ length code → mem a (flagged w (length code)) ≡ mem a (closure (final_edges (finals (prepared (in_mode mode) code) recs)) (0 ∷ []))
  pub places : Chains (length code) (length recs) 0 r w r 0
  pub lent : Room (length code) w
  pub few : length recs ≤ 2 ^ 30
  pub away : length code < NOWHERE
