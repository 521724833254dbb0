-- The path in hand, in P, and how often each address is on it, in W. Assumes nothing.
use Rattle.std.specs.Prelude.{Result, IfOk, IfErr, OnOk, ◌≡◌, ℕ, ◌+◌, ◌-◌, ◌*◌, ◌^◌, ◌≤◌, ◌<◌, List, [], ◌∷◌, ◌++◌, eqb, length, take, drop}
use Rattle.spec.specs.Lists.{if}
use Rattle.refusal.specs.declared.Shortage.{Shortage}
use Rattle.refusal.specs.declared.Shortage.TheVariants as short
use Rattle.laws.specs.Lists.{In}
use Rattle.layout.specs.Fields.{HIGHEST, count_at}
use Rattle.layout.specs.Parts.{SameRows, SameStart, SameFields, PastFields}
use Rattle.layout.specs.Rows.{start_of}
use Rattle.tables.specs.Addrs.{addrs}
use Rattle.tables.specs.Records.{Row}
use Rattle.reachable.specs.Promises.{Room}

-- ---- growing

pub record Growing (p r q : List ℕ) (room np at : ℕ) : Type 0 where
  pub some : 1 ≤ at
  pub direct : at < 0x10000 → start_of at < 2 ^ 16
  pub found : 0x10000 ≤ at → Row r q (at - 0x10000)
  pub in_p : 2 * room ≤ length p
  pub most : room ≤ 2 ^ 30
  pub fits : np ≤ room

-- P is refused where the room is short, and else the path has the addresses `more` behind its own
pub record Grown (p : List ℕ) (np room : ℕ) (more p' : List ℕ) (x : Result ℕ Shortage) : Type 0 where
  pub short : IfErr x (λ e. (e ≡ short.P) × (p' ≡ p) × (room < np + length more))
  pub is : IfOk x (λ y. y ≡ np + length more)
  pub fits : OnOk x (np + length more ≤ room)
  pub path : IfOk x (λ y. addrs p' 0 y ≡ addrs p 0 np ++ more)
  pub front : take (2 * np) p' ≡ take (2 * np) p
  pub back : drop (2 * (np + length more)) p' ≡ drop (2 * (np + length more)) p
  pub long : length p' ≡ length p

-- ---- counts

unfoldable pub occurs : ℕ → List ℕ → ℕ
occurs a [] = 0
occurs a (x ∷ xs) = if (eqb a x) 1 0 + occurs a xs

-- every address of the path is one of the code's
pub record Inside (n : ℕ) (path : List ℕ) : Type 0 where
  pub each : (a : ℕ) → In a path → a ≤ n

pub record OnPath (n : ℕ) (w path : List ℕ) : Type 0 where
  pub counts : (a : ℕ) → a ≤ n → count_at w n a ≡ occurs a path

-- W is as it was but for the counts
pub record CountsOnly (n : ℕ) (w w' : List ℕ) : Type 0 where
  pub front : SameRows n w w'
  pub before : SameStart 12 n w w'
  pub after : SameFields 4 HIGHEST n w w'
  pub back : PastFields n w w'
  pub long : length w' ≡ length w

pub record Counting (n : ℕ) (w p : List ℕ) (from to : ℕ) : Type 0 where
  pub lent : Room n w
  pub in_p : 2 * to ≤ length p
  pub most : to ≤ 2 ^ 30
  pub order : from ≤ to
  pub inside : Inside n (addrs p 0 to)
  pub counts : OnPath n w (addrs p 0 from)

pub record Uncounting (n : ℕ) (w p : List ℕ) (from to : ℕ) : Type 0 where
  pub lent : Room n w
  pub in_p : 2 * to ≤ length p
  pub most : to ≤ 2 ^ 30
  pub order : from ≤ to
  pub inside : Inside n (addrs p 0 to)
  pub counts : OnPath n w (addrs p 0 to)

-- the counts are those of the first np addresses
pub record Counted (n : ℕ) (w p : List ℕ) (np : ℕ) (w' : List ℕ) : Type 0 where
  pub counts : OnPath n w' (addrs p 0 np)
  pub only : CountsOnly n w w'
