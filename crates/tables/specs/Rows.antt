-- The remembered rows, in the buffers T and S. Assumes nothing.
use Rattle.std.specs.Prelude.{◌≡◌, ℕ, zero, suc, ◌+◌, ◌*◌, ◌/◌, ◌%◌, ◌^◌, ◌<◌, ◌≤◌, Bool, ◌&&◌, List, [], ◌∷◌, ◌++◌, length, take, drop, ◌==◌, ◌≢◌}
use Rattle.spec.specs.Lists.{little}
use Rattle.spec.specs.Stacks.{Sym, eq_sym, eq_stack}
use Rattle.spec.specs.Search.{Met}
use Rattle.lent.specs.Bytes.{Stored}
use Rattle.layout.specs.Seens.{SEEN, seen_place, T-SYMBOL, T-MARK, T-HEAD, block_at, place_at, cells_at, row_sum_at, mark_at, stamp_at, chain_at, top_at}
use Rattle.state.specs.Symbols.{sym_of}
use Rattle.state.specs.Cells.{cell, sym_at, syms_at, stack_at, State}
use Rattle.tables.specs.Sums.{stamp, bucket_of}
use Rattle.tables.specs.Chains.{Chained}
use Rattle.tables.specs.declared.row.Seen.{Seen}

unfoldable pub shelf_at : ℕ → List ℕ → ℕ → ℕ
shelf_at buckets t i = bucket_of buckets (stamp_at t i)

-- ---- the rows: the state lies at the bottom of S

unfoldable pub met_at : List ℕ → List ℕ → ℕ → Met
met_at t s i = record { last = block_at t i; stack = stack_at s (9 * place_at t i) (cells_at t i); symbol = sym_at t (seen_place i + T-SYMBOL) }

-- the first m, newest first
unfoldable pub met_of : List ℕ → List ℕ → ℕ → List Met
met_of t s zero = []
met_of t s (suc m) = met_at t s m ∷ met_of t s m

-- what is looked up, and its sum
abbrev pub seen_met : List ℕ → Seen → Met
seen_met s x = record { last = x.last; stack = stack_at s (9 * x.from) x.cells; symbol = sym_of x.symbol }

abbrev pub stamp_of : List ℕ → Seen → ℕ
stamp_of s x = stamp x.last (sym_of x.symbol) (syms_at s (9 * x.from) x.cells)

abbrev pub equal_met : Met → Met → Bool
equal_met m n = m.last == n.last && eq_sym m.symbol n.symbol && eq_stack m.stack n.stack

abbrev pub is_met : List ℕ → List ℕ → Met → ℕ → Bool
is_met t s m i = equal_met m (met_at t s i)

-- ---- what holds of them

-- the cells at the bottom of S that the first i rows and the turn's first state use
unfoldable pub used_of : List ℕ → ℕ → ℕ → ℕ
used_of t first zero = first
used_of t first (suc i) = used_of t first i + cells_at t i

-- row i stands in T, its state in S, and its sum is its own
pub record MetRow (t s : List ℕ) (i : ℕ) : Type 0 where
  pub in_t : seen_place i + SEEN ≤ length t
  pub state : State s (9 * place_at t i) (cells_at t i)
  pub stamped : stamp_at t i ≡ stamp (block_at t i) (sym_at t (seen_place i + T-SYMBOL)) (syms_at s (9 * place_at t i) (cells_at t i))

-- where T has no room at all there is no shelf, and no row
pub record Shelves (buckets : ℕ) (t : List ℕ) (m : ℕ) : Type 0 where
  pub some : (m ≢ 0) → 1 ≤ buckets
  pub in_t : seen_place buckets ≤ length t
  pub most_t : seen_place m ≤ length t
  pub chained : Chained (shelf_at buckets t) (chain_at t) (top_at t) buckets m

-- what is looked up stands in S, and has the sum
pub record Stamped (s : List ℕ) (x : Seen) (sum : ℕ) : Type 0 where
  pub is : sum ≡ stamp_of s x
  pub small : sum < 2 ^ 40

pub record Compares (t s : List ℕ) (i : ℕ) (x : Seen) (sum : ℕ) : Type 0 where
  pub state : State s (9 * x.from) x.cells
  pub stamped : Stamped s x sum
  pub row : MetRow t s i

pub record Finds (t s : List ℕ) (buckets m : ℕ) (x : Seen) (sum : ℕ) : Type 0 where
  pub state : State s (9 * x.from) x.cells
  pub stamped : Stamped s x sum
  pub rows : (i : ℕ) → i < m → MetRow t s i
  pub some : 1 ≤ buckets
  pub shelves : Shelves buckets t m

-- ---- a row more

-- row i says what is seen, with its sum and its link
pub record Tells (t : List ℕ) (i : ℕ) (x : Seen) (sum link : ℕ) : Type 0 where
  pub block : block_at t i ≡ x.last
  pub symbol : sym_at t (seen_place i + T-SYMBOL) ≡ sym_of x.symbol
  pub place : place_at t i ≡ x.from
  pub cells : cells_at t i ≡ x.cells
  pub summed : row_sum_at t i ≡ sum / 256
  pub marked : mark_at t i ≡ sum % 256
  pub chain : chain_at t i ≡ link

-- every field of row i is as it was; the head that stands there may differ
pub record SameTold (t t' : List ℕ) (i : ℕ) : Type 0 where
  pub block : block_at t' i ≡ block_at t i
  pub symbol : sym_at t' (seen_place i + T-SYMBOL) ≡ sym_at t (seen_place i + T-SYMBOL)
  pub place : place_at t' i ≡ place_at t i
  pub cells : cells_at t' i ≡ cells_at t i
  pub summed : row_sum_at t' i ≡ row_sum_at t i
  pub marked : mark_at t' i ≡ mark_at t i
  pub chain : chain_at t' i ≡ chain_at t i

-- the last block and the symbol stored, and the rest
pub record SeenPut (t : List ℕ) (at last : ℕ) (x : Sym) (t' : List ℕ) : Type 0 where
  pub stored : Stored 11 t at (little 2 last ++ cell x) t'
  pub small : last < 2 ^ 16
  pub reads : sym_at t' (at + 2) ≡ x

unfoldable pub place_bytes : ℕ → ℕ → ℕ → ℕ → List ℕ
place_bytes from cells sum link = ((little 4 from ++ little 4 cells) ++ little 4 sum) ++ little 4 link

-- what is to be told fits its fields
pub record Tellable (x : Seen) (sum link : ℕ) : Type 0 where
  pub last : x.last < 2 ^ 16
  pub from : x.from < 2 ^ 32
  pub cells : x.cells < 2 ^ 32
  pub stamped : sum < 2 ^ 40
  pub chain : link < 2 ^ 32

pub record RowPut (t : List ℕ) (i : ℕ) (x : Seen) (sum link : ℕ) (t' : List ℕ) : Type 0 where
  pub tells : Tells t' i x sum link
  pub seen : take 11 (drop (seen_place i) t') ≡ little 2 x.last ++ cell (sym_of x.symbol)
  pub front : take (seen_place i) t' ≡ take (seen_place i) t
  pub mark : take 1 (drop (seen_place i + T-MARK) t') ≡ little 1 (sum % 256)
  pub back : drop (seen_place i + T-HEAD) t' ≡ drop (seen_place i + T-HEAD) t
  pub long : length t' ≡ length t

-- a row is put on its shelf: there is room for it
pub record Pushes (buckets : ℕ) (t : List ℕ) (m : ℕ) (x : Seen) (sum : ℕ) : Type 0 where
  pub some : 1 ≤ buckets
  pub shelves : Shelves buckets t m
  pub in_t : seen_place m + SEEN ≤ length t
  pub small : m + 1 < 2 ^ 32
  pub last : x.last < 2 ^ 16
  pub from : x.from < 2 ^ 32
  pub cells : x.cells < 2 ^ 32
  pub stamped : sum < 2 ^ 40

-- now it is there; the other rows, and what stands beside and after them, but for the head of its shelf, are as they were
pub record Pushed (buckets : ℕ) (t : List ℕ) (m : ℕ) (x : Seen) (sum : ℕ) (t' : List ℕ) : Type 0 where
  pub shelves : Shelves buckets t' (suc m)
  pub link : ℕ
  pub tells : Tells t' m x sum link
  pub seen : take 11 (drop (seen_place m) t') ≡ little 2 x.last ++ cell (sym_of x.symbol)
  pub mark : take 1 (drop (seen_place m + T-MARK) t') ≡ little 1 (sum % 256)
  pub rows : (i : ℕ) → i < m → SameTold t t' i
  pub older : (i : ℕ) → i < m → take 28 (drop (seen_place i) t') ≡ take 28 (drop (seen_place i) t)
  pub later : (i : ℕ) → m < i → take 28 (drop (seen_place i) t') ≡ take 28 (drop (seen_place i) t)
  pub tops : (h : ℕ) → buckets ≤ h → top_at t' h ≡ top_at t h
  pub long : length t' ≡ length t
