-- The laws of `enter_all`: more and more of the seeds are taken. Assumes nothing.
use mathlib.Core.List.{List, [], ◌∷◌}
use Prim.Native.Nat.{ℕ, zero, suc, ◌+◌, ◌≤◌, ◌<◌}
use native.Mathlib.Numerals.{add-one}
use native.Mathlib.Omega.{arith}
use lib.ListN.{length, get_or, take}
use lib.Seq.{take-suc}
use Rattle.laws.proofs.Members.{In, here, there, in_mem}
use Rattle.reachable.specs.Promises.{Going, Took, Expands}
use Rattle.reachable.proofs.Entering.{took-none, took-after}
use Rattle.reachable.proofs.Spreading.{room-kept}

-- the first i of the seeds are taken
pub record Taking (n : ℕ) (w₀ seeds : List ℕ) (when i : ℕ) (w : List ℕ) (count : ℕ) : Type 0 where
  pub asks : Expands n w₀ seeds when
  pub most : i ≤ length seeds
  pub took : Took n when (take i seeds) w₀ 0 w count

pub take-start : {n when : ℕ} {w seeds : List ℕ} → Expands n w seeds when → Taking n w seeds when 0 w 0
take-start {n} {when} {w} a = record { asks = a; most = omega arith; took = took-none n when 0 w }

module _ {n when i count : ℕ} {w₀ seeds w : List ℕ} (t : Taking n w₀ seeds when i w count) (l : i < length seeds) where
  pub take-going : Going n w (get_or seeds i 0) when count
  take-going = record {
    at = record { lent = room-kept t.took.kept t.asks.lent; inside = t.asks.inside (get_or seeds i 0) (in_mem (get_or seeds i 0) (at_place seeds i l)) };
    small = t.asks.small;
    few = omega (arith, t.took.number);
  }
    where
      at_place : (xs : List ℕ) (k : ℕ) → k < length xs → In (get_or xs k 0) xs
      at_place [] k h = absurd (omega arith)
      at_place (x ∷ xs) zero h = here
      at_place (x ∷ xs) (suc k) h = there (at_place xs k (omega arith))

  pub take-turn : {w' : List ℕ} {count' : ℕ} → Took n when (get_or seeds i 0 ∷ []) w count w' count' → Taking n w₀ seeds when (i + 1) w' count'
  take-turn q = record { asks = t.asks; most = omega arith; took = rw (add-one i, take-suc seeds i 0 l) (took-after t.took q) }
