-- Paths in a lent buffer: addresses of two bytes each, and their sum. Assumes nothing.
use Rattle.std.specs.Prelude.{◌≡◌, ℕ, zero, suc, ◌+◌, ◌-◌, ◌*◌, ◌^◌, ◌<◌, ◌≤◌, List, [], ◌∷◌, length}
use Rattle.spec.specs.Lists.{same}
use Rattle.lent.specs.Bytes.{num_at}
use Rattle.tables.specs.Sums.{mixed}

-- n addresses from the address `at` on
unfoldable pub addrs : List ℕ → ℕ → ℕ → List ℕ
addrs b at zero = []
addrs b at (suc n) = num_at 2 b (2 * at) ∷ addrs b (at + 1) n

-- four sums that take turns with the numbers, each adding every fourth, and in the end are added up in the same way: none waits for the one before it
unfoldable pub turns : ℕ → ℕ → ℕ → ℕ → List ℕ → ℕ
turns a b c d [] = mixed 37 (mixed 37 (mixed 37 a b) c) d
turns a b c d (x ∷ xs) = turns b c d (mixed 37 a x) xs

-- the sum of a path
abbrev pub path_sum : List ℕ → ℕ
path_sum path = turns 0 0 0 0 path

-- n addresses from `at` on lie within b
pub record Path (b : List ℕ) (at n : ℕ) : Type 0 where
  pub fits : 2 * (at + n) ≤ length b

-- a path and as many addresses of q from `at` on
pub record Beside (p : List ℕ) (np : ℕ) (q : List ℕ) (at : ℕ) : Type 0 where
  pub path : Path p 0 np
  pub other : Path q at np

-- r is the sum of a path
pub record Summed (path : List ℕ) (r : ℕ) : Type 0 where
  pub is : r ≡ path_sum path
  pub small : r < 2 ^ 32

-- r has the four addresses from `at` on, 16 bits each
pub record Packed (b : List ℕ) (at r : ℕ) : Type 0 where
  pub is : r ≡ num_at 2 b (2 * at) + (num_at 2 b (2 * at + 2) + (num_at 2 b (2 * at + 4) + num_at 2 b (2 * at + 6) * 65536) * 65536) * 65536
  pub first : num_at 2 b (2 * at) < 65536
  pub second : num_at 2 b (2 * at + 2) < 65536
  pub third : num_at 2 b (2 * at + 4) < 65536
  pub fourth : num_at 2 b (2 * at + 6) < 65536

-- what is left of two paths after i addresses decides whether they are the same
pub record Left (p : List ℕ) (np : ℕ) (q : List ℕ) (at i : ℕ) : Type 0 where
  pub inside : i ≤ np
  pub decides : same (addrs p (0 + i) (np - i)) (addrs q (at + i) (np - i)) ≡ same (addrs p 0 np) (addrs q at np)
