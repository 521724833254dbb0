-- What each function asks and promises, a record each. Assumes nothing.
use Rattle.std.specs.Prelude.{◌≡◌, List, [], ◌∷◌, ◌++◌, map, ℕ, suc, ◌+◌, ◌-◌, ◌≤◌, ◌<◌, length, get_or, take, drop}
use Rattle.std.proofs.Math.Option.{none}
use Rattle.spec.specs.Opcodes.{argument, row}
use Rattle.spec.specs.Walk.{instructions}
use Rattle.spec.specs.Blocks.{Block, with_kind, opened, cuts, checked, starts, check_all, blocks}
use Rattle.spec.specs.Rooms.{longest, work_need}
use Rattle.layout.specs.Parts.{row_place, rows_end, starts_place, start_place, PastRows}
use Rattle.layout.specs.Rows.{tag_at, starts_at}
use Rattle.initial.specs.Rows.{row_blocks, blocks_at, Laid, Listed}
use Rattle.initial.specs.Turn.{clipped, rest, ahead}
use Rattle.initial.specs.declared.turn.Walking.{Walking}
use Rattle.initial.specs.declared.turn.Walking.TheVariants.{Opened, Waiting, Ended}

-- ---- what the callers of the whole lend: over 49,152 bytes of code are refused, and W short of "64 × code length + 256 bytes"

pub record Lent (code w : List ℕ) : Type 0 where
  pub short : length code ≤ longest
  pub room : work_need (length code) ≤ length w

-- nothing past the rows changed
pub record Beyond (n : ℕ) (w w' : List ℕ) : Type 0 where
  pub others : PastRows n w w'
  pub kept : length w' ≡ length w

-- the rows hold these blocks and nothing else, which says each of their bytes, and nothing past the rows changed
pub record Written (n : ℕ) (bs : List Block) (w w' : List ℕ) : Type 0 where
  pub blocks : blocks_at w' n ≡ bs
  pub laid : Laid w' n
  pub beyond : Beyond n w w'

-- ---- the cutting

-- the instruction op stands whole at pc
pub record Stands (code : List ℕ) (pc op : ℕ) : Type 0 where
  pub byte : op ≡ get_or code pc 0
  pub whole : pc + argument op < length code

-- the instruction at a place stands whole
pub record Whole (code : List ℕ) (at : ℕ) : Type 0 where
  pub whole : at + argument (get_or code at 0) < length code

-- so does the instruction before the one at pc
pub record Behind (code : List ℕ) (prev pc : ℕ) : Type 0 where
  pub before : Whole code prev
  pub inside : pc < length code

-- no block that starts before this address is still to be written
abbrev pub lowest : Walking → ℕ → ℕ
lowest (Opened start) at = start
lowest Waiting at = at
lowest Ended at = at

-- no block is written at or past lo
pub record Empty (w : List ℕ) (lo n : ℕ) : Type 0 where
  pub none : (a : ℕ) → lo ≤ a → a ≤ n → tag_at w a ≡ 0

-- how the rows of a code of n bytes stand where the walk is at a place, with the last instruction at prev
pub record Standing (n : ℕ) (w : List ℕ) (m : Walking) (prev at : ℕ) : Type 0 where
  pub short : n ≤ longest
  pub room : rows_end n ≤ length w
  pub laid : Laid w n
  pub empty : Empty w (lowest m at) n
  pub low : lowest m at ≤ at
  pub inside : at ≤ n
  pub back : prev ≤ at

-- so, and that instruction stands whole, unless there is none yet
pub record Ready (code w : List ℕ) (m : Walking) (prev at : ℕ) : Type 0 where
  pub rows : Standing (length code) w m prev at
  pub before : prev < at → Whole code prev

-- where the instruction after the one at pc stands
abbrev pub after : ℕ → ℕ → ℕ
after pc op = pc + suc (argument op)

-- One instruction was taken: what is written and what is still to be cut are together what they were.
pub record Turned (code w : List ℕ) (m : Walking) (prev pc op : ℕ) (w' : List ℕ) (m' : Walking) : Type 0 where
  pub same : blocks_at w' (length code) ++ ahead code (after pc op) m' pc ≡ blocks_at w (length code) ++ ahead code pc m prev
  pub ready : Ready code w' m' pc (after pc op)
  pub beyond : Beyond (length code) w w'

-- the block that is left open where the walk ends, if it is kept
unfoldable pub last : Walking → ℕ → List Block
last m prev = map clipped (rest [] m prev none)

-- the code's blocks before the checks
unfoldable pub cutting : List ℕ → List Block
cutting [] = []
cutting (b ∷ code) = cuts row (instructions (b ∷ code)) (opened 0 0) 0 none

-- ---- the checks afterwards

-- rows to be checked
pub record Rows (code w : List ℕ) : Type 0 where
  pub lent : Lent code w
  pub laid : Laid w (length code)

-- blocks from lo on, of a code of n bytes, each behind the end of the one before
pub data Apart (n : ℕ) : ℕ → List Block → Type 0 where
  no_more : {lo : ℕ} → Apart n lo []
  one_more : {lo : ℕ} {b : Block} {bs : List Block} → lo ≤ b.start → b.start ≤ b.end → b.end ≤ n → Apart n (suc b.end) bs → Apart n lo (b ∷ bs)

-- the end of the block in the row of a, or a where none starts
abbrev pub through : ℕ → List Block → ℕ
through a [] = a
through a (b ∷ bs) = b.end

-- a block with its kind checked, where the blocks start so
abbrev pub rechecked : List ℕ → List ℕ → Block → Block
rechecked code ss b = with_kind (checked code ss b.kind) b

-- the row of one address was checked, and r is the end of its block, or the address where none starts
pub record CheckedRow (code w : List ℕ) (a : ℕ) (w' : List ℕ) (r : ℕ) : Type 0 where
  pub same : row_blocks w' a ≡ map (rechecked code (starts (blocks_at w (length code)))) (row_blocks w a)
  pub before : take (row_place a) w' ≡ take (row_place a) w
  pub past : drop (row_place (a + 1)) w' ≡ drop (row_place (a + 1)) w
  pub end : r ≡ through a (row_blocks w a)
  pub laid : Laid w' (length code)
  pub kept : length w' ≡ length w

-- room for the start of the block in the row of an address, behind many others: at most one for each address before
pub record Listing (n : ℕ) (w : List ℕ) (a many : ℕ) : Type 0 where
  pub short : n ≤ longest
  pub room : work_need n ≤ length w
  pub inside : a ≤ n
  pub few : many ≤ a

-- it was listed, where one starts there, and r are listed now
pub record ListedRow (n : ℕ) (w : List ℕ) (a many : ℕ) (w' : List ℕ) (r : ℕ) : Type 0 where
  pub list : starts_at w' n 0 r ≡ starts_at w n 0 many ++ starts (row_blocks w a)
  pub before : take (start_place n many) w' ≡ take (start_place n many) w
  pub past : drop (start_place n r) w' ≡ drop (start_place n r) w
  pub low : many ≤ r
  pub few : r ≤ many + 1
  pub kept : length w' ≡ length w

-- the rows hold the blocks checked and nothing else, their starts are listed, and nothing else changed
pub record CheckedAll (code w w' : List ℕ) (many : ℕ) : Type 0 where
  pub same : blocks_at w' (length code) ≡ check_all code (blocks_at w (length code))
  pub laid : Laid w' (length code)
  pub listed : Listed (length code) w' many
  pub few : many ≤ length code + 1
  pub between : take (starts_place (length code) - rows_end (length code)) (drop (rows_end (length code)) w')
      ≡ take (starts_place (length code) - rows_end (length code)) (drop (rows_end (length code)) w)
  pub past : drop (start_place (length code) many) w' ≡ drop (start_place (length code) many) w
  pub kept : length w' ≡ length w

-- ---- both

-- the rows hold the code's blocks and nothing else, their starts are listed, and nothing else changed
pub record Initial (code w w' : List ℕ) (many : ℕ) : Type 0 where
  pub same : blocks_at w' (length code) ≡ blocks row code (instructions code)
  pub laid : Laid w' (length code)
  pub listed : Listed (length code) w' many
  pub few : many ≤ length code + 1
  pub between : take (starts_place (length code) - rows_end (length code)) (drop (rows_end (length code)) w')
      ≡ take (starts_place (length code) - rows_end (length code)) (drop (rows_end (length code)) w)
  pub past : drop (start_place (length code) many) w' ≡ drop (start_place (length code) many) w
  pub kept : length w' ≡ length w
