-- The number that an instruction's argument spells. Assumes nothing.
use Rattle.std.specs.Prelude.{◌≡◌, ℕ, ◌+◌, ◌^◌, ◌≤◌, ◌<◌, List, length, take, drop}
use Rattle.spec.specs.Walk.{big}

-- n bytes stand after pc, and their number fits 32 bits
pub record Follow (code : List ℕ) (pc n : ℕ) : Type 0 where
  pub few : n ≤ 4
  pub inside : pc + n < length code

-- r is what the n bytes after pc spell, most significant first
pub record Spelled (code : List ℕ) (pc n r : ℕ) : Type 0 where
  pub spelt : r ≡ big 0 (take n (drop (pc + 1) code))
  pub small : r < 2 ^ 32
