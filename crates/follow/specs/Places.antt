-- Places among a block's distinct destinations. Assumes nothing.
use Rattle.std.specs.Prelude.{◌≡◌, ℕ, ◌*◌, ◌+◌, ◌≤◌, false, List, ◌∷◌, ◌++◌, length, take, drop, Option, Some, None}
use Rattle.std.specs.Borrow.{Bor}
use Rattle.spec.specs.Lists.{mem}
use Rattle.spec.specs.Counting.{distinct}
use Rattle.reader.specs.Walks.{Walking}
use Rattle.follow.specs.Blocks.{named_by, many_in}
use Rattle.follow.specs.declared.block.Named.{Named}
use Rattle.follow.specs.declared.place.Distinct.{Distinct}

-- q is one of them, with so many before it
pub record PlaceOf (q : ℕ) (ds : List ℕ) (n : ℕ) : Type 0 where
  pub before : List ℕ
  pub behind : List ℕ
  pub is : ds ≡ before ++ q ∷ behind
  pub first : mem q before ≡ false
  pub place : n ≡ length before

-- the place of one that is asked for; or it is none of them
abbrev pub place_in : ℕ → List ℕ → Option ℕ → Type 0
place_in q ds (Some n) = PlaceOf q ds n
place_in q ds None = mem q ds ≡ false

-- as an iterator: so many are passed, and a walk goes on behind them
pub record CanChoose (s : Distinct) : Type 0 where
  pub prefix : List ℕ
  pub is : named_by s.map.now s.named ≡ prefix ++ named_by s.map.now s.rest
  pub long : length prefix ≡ s.passed
  pub start : Walking s.map.now s.named.at
  pub walking : Walking s.map.now s.rest.at
  pub bound : 6 * (s.passed + many_in s.rest.sides) ≤ s.rest.at + 12

abbrev pub none_passed : Bor (List ℕ) → Named → Distinct
none_passed map c = record { map = map; named = c; passed = 0; rest = c }

-- those that are left: behind as many as the passed ones have
unfoldable pub left_of : List ℕ → ℕ → List ℕ
left_of ds passed = drop (length (distinct (take passed ds))) (distinct ds)

abbrev pub distinct_left : Distinct → List ℕ
distinct_left s = left_of (named_by s.map.now s.named) s.passed
