-- Chains of rows that share a key, in a table whose rows are only added: a link holds one more than an index, and 0 ends the chain. Assumes nothing.
use Rattle.std.specs.Prelude.{◌≡◌, ℕ, zero, suc, ◌<◌, ◌≤◌, Bool, true, false, ◌&&◌, ◌||◌, ◌==◌, nat_le, ◌+◌, Option, Some, None}
use Rattle.spec.specs.Lists.{if}
use Rattle.spec.specs.Rooms.{or_else}

-- one more than the newest index below m that has the key h; 0 if none has
unfoldable pub newest : (ℕ → ℕ) → ℕ → ℕ → ℕ
newest key h zero = 0
newest key h (suc m) = if (key m == h) (suc m) (newest key h m)

-- a row as its link has it: one more than the row, and 0 for none
abbrev pub link_of : Option ℕ → ℕ
link_of None = 0
link_of (Some i) = i + 1

-- one more than the first index from i on, and below m, that has the key h; 0 if none has
unfoldable pub following : (ℕ → ℕ) → ℕ → ℕ → ℕ → ℕ
following key h i zero = 0
following key h i (suc m) = or_else (following key h i m) (if (nat_le i m && key m == h) (suc m) 0)

-- some index below m passes the test
unfoldable pub any : (ℕ → Bool) → ℕ → Bool
any f zero = false
any f (suc m) = f m || any f m

-- m rows in b chains: each row links to the one before it with the same key, and the head of a chain to its newest row
pub record Chained (key link head : ℕ → ℕ) (b m : ℕ) : Type 0 where
  pub links : (i : ℕ) → i < m → link i ≡ newest key (key i) i
  pub heads : (h : ℕ) → h < b → head h ≡ newest key h m

-- m rows: those that share a key of at most n lie on one chain in the order of the table, with its first and its last at hand; those with a higher key on none
pub record Ordered (key next first last : ℕ → ℕ) (n m : ℕ) : Type 0 where
  pub nexts : (i : ℕ) → i < m → key i ≤ n → next i ≡ following key (key i) (suc i) m
  pub stops : (i : ℕ) → i < m → n < key i → next i ≡ 0
  pub firsts : (a : ℕ) → a ≤ n → first a ≡ following key a 0 m
  pub lasts : (a : ℕ) → a ≤ n → last a ≡ newest key a m

-- what passes the test has the key h
pub record Keyed (key : ℕ → ℕ) (f : ℕ → Bool) (m h : ℕ) : Type 0 where
  pub inside : (i : ℕ) → i < m → f i ≡ true → key i ≡ h

-- along the chain of h: what is left of it from `cur` on is all that the test can find among m rows
pub record Left (key : ℕ → ℕ) (f : ℕ → Bool) (m h cur : ℕ) : Type 0 where
  pub most : cur ≤ m
  pub links : newest key h cur ≡ cur
  pub finds : any f cur ≡ any f m
