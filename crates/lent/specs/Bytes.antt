-- Bytes in a lent buffer: the number that stands at a place, a run stored at one, and the contracts on both. Assumes nothing.
use Rattle.std.specs.Prelude.{◌≡◌, ℕ, ◌+◌, ◌^◌, ◌≤◌, ◌<◌, List, ◌++◌, length, take, drop}
unfoldable pub use Rattle.spec.specs.Lists.{number}

-- the number in the k bytes of b from `at` on
unfoldable pub num_at : ℕ → List ℕ → ℕ → ℕ
num_at k b at = number (take k (drop at b))

-- b with the bytes bs in the place of its own from `at` on
unfoldable pub patch : List ℕ → ℕ → List ℕ → List ℕ
patch b at bs = take at b ++ (bs ++ drop (at + length bs) b)

-- what a reader gives: the number v in the k bytes of b from `at` on, with the bound that they have as bytes
pub record Holds (k : ℕ) (b : List ℕ) (at v : ℕ) : Type 0 where
  pub is : v ≡ num_at k b at
  pub small : v < 256 ^ k

-- what a writer leaves: b' is b with the n bytes bs from `at` on, which lie within it; all else is as it was
pub record Stored (n : ℕ) (b : List ℕ) (at : ℕ) (bs b' : List ℕ) : Type 0 where
  pub is : b' ≡ patch b at bs
  pub long : length bs ≡ n
  pub fits : at + n ≤ length b
  pub kept : length b' ≡ length b
