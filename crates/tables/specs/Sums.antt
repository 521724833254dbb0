-- The sum of numbers and of symbols, in 32 bits. Assumes nothing.
use Rattle.std.specs.Prelude.{◌≡◌, ℕ, ◌+◌, ◌*◌, ◌/◌, ◌%◌, ◌^◌, min, List, [], ◌∷◌}
use Rattle.spec.specs.Stacks.{Sym}
use Rattle.state.specs.Cells.{tag, value}
use Rattle.tables.specs.declared.row.Sums.{Sums}

-- k times a sum with one number more, kept to 32 bits
unfoldable pub mixed : ℕ → ℕ → ℕ → ℕ
mixed k sum x = (sum * k + x) % 2 ^ 32

-- a symbol as a number
unfoldable pub weight : Sym → ℕ
weight x = (value x + tag x * 1000000) % 2 ^ 32

unfoldable pub sym_sums : ℕ → ℕ → List Sym → ℕ
sym_sums k sum [] = sum
sym_sums k sum (x ∷ xs) = sym_sums k (mixed k sum (weight x)) xs

-- of a last block, a symbol and a state's symbols
unfoldable pub summed : ℕ → ℕ → Sym → List Sym → ℕ
summed k last x xs = sym_sums k (mixed k (mixed k 0 last) (weight x)) xs

-- the bucket of a sum: its lowest 32 bits are spread over 32 bits by a factor, and what comes out is scaled down to the buckets
unfoldable pub bucket_of : ℕ → ℕ → ℕ
bucket_of buckets sum = sum % 2 ^ 32 * 2654435769 % 2 ^ 32 * min buckets (2 ^ 32) / 2 ^ 32

-- a row's sum, and in the lowest byte the mark that tells apart rows of one sum: where the second sum falls among 256 buckets, so that every bit of it counts
unfoldable pub stamp : ℕ → Sym → List Sym → ℕ
stamp last x xs = summed 37 last x xs * 256 + bucket_of 256 (summed 3 last x xs)

-- r has both sums with the symbols
pub record SumsWith (a : Sums) (xs : List Sym) (r : Sums) : Type 0 where
  pub sum : r.sum ≡ sym_sums 37 a.sum xs
  pub mark : r.mark ≡ sym_sums 3 a.mark xs
