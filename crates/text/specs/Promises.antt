-- Digits of a number, and how many it has. Assumes nothing.
use Rattle.std.specs.Prelude.{◌≡◌, List, [], ◌∷◌, ◌++◌, ℕ, zero, suc, ◌+◌, ◌/◌, ◌%◌, ◌≤◌, length}
use Rattle.spec.specs.Json.{decimal}

-- the k last digits, zeros before them where there are fewer
unfoldable pub fixed : ℕ → ℕ → List ℕ
fixed zero n = []
fixed (suc k) n = fixed k (n / 10) ++ ((0x30 + n % 10) ∷ [])

-- the number is k digits, and they are few
pub record Digits (n k : ℕ) : Type 0 where
  pub is : decimal n ≡ fixed k n
  pub long : length (decimal n) ≡ k
  pub some : 1 ≤ k
  pub few : k ≤ 5
