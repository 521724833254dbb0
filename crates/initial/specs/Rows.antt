-- The blocks that the rows of W hold, one for each address from 0 to the code's length, in address order, which is the blocks' order. Assumes nothing.
use Rattle.std.specs.Prelude.{◌≡◌, List, [], ◌∷◌, ◌++◌, ℕ, zero, suc, ◌+◌, ◌≤◌, eqb, take, drop, replicate}
use Rattle.spec.specs.Lists.{if}
use Rattle.spec.specs.Blocks.{Kind, terminate, jump, jumpi, dynamic_jump, dynamic_jumpi, Block, block, starts}
use Rattle.lent.specs.Bytes.{num_at}
use Rattle.layout.specs.Parts.{ROW, row_place}
use Rattle.layout.specs.Rows.{END, REST, tag_at, type_at, head_of, starts_at}
use Rattle.layout.specs.declared.row.BlockType.{BlockType}
use Rattle.layout.specs.declared.row.BlockType.TheVariants.{Terminate, Jump, Jumpi, DynamicJump, DynamicJumpi}

-- ---- kinds, as a row's type and back

abbrev pub type_of : Kind → BlockType
type_of (terminate success) = Terminate success
type_of (jump t) = Jump t
type_of (jumpi t f) = Jumpi t f
type_of dynamic_jump = DynamicJump
type_of (dynamic_jumpi f) = DynamicJumpi f

abbrev pub kind_of : BlockType → Kind
kind_of (Terminate success) = terminate success
kind_of (Jump t) = jump t
kind_of (Jumpi t f) = jumpi t f
kind_of DynamicJump = dynamic_jump
kind_of (DynamicJumpi f) = dynamic_jumpi f

-- ---- what stands in the row of an address

abbrev pub kind_at : List ℕ → ℕ → Kind
kind_at w a = kind_of (type_at w a)

-- "`id` equals `start`"
abbrev pub block_at : List ℕ → ℕ → Block
block_at w a = block a a (num_at 2 w (row_place a + END)) (kind_at w a)

-- the block that starts at the address, if one does
unfoldable pub row_blocks : List ℕ → ℕ → List Block
row_blocks w a = if (eqb (tag_at w a) 0) [] (block_at w a ∷ [])

-- the blocks that start at the m addresses from a on
unfoldable pub blocks_from : List ℕ → ℕ → ℕ → List Block
blocks_from w a zero = []
blocks_from w a (suc m) = row_blocks w a ++ blocks_from w (suc a) m

-- the blocks of a code of n bytes
abbrev pub blocks_at : List ℕ → ℕ → List Block
blocks_at w n = blocks_from w 0 (suc n)

-- ---- a row's bytes

abbrev pub row_of : List Block → List ℕ
row_of [] = replicate ROW 0
row_of (b ∷ bs) = head_of b.end (type_of b.kind) ++ replicate REST 0

-- Each row holds its block and nothing else: so the blocks say every byte of the rows.
pub record Laid (w : List ℕ) (n : ℕ) : Type 0 where
  pub row : (a : ℕ) → a ≤ n → take ROW (drop (row_place a) w) ≡ row_of (row_blocks w a)

-- ---- the list of the blocks' starts: its first `many` entries are the starts of the blocks that the rows hold

pub record Listed (n : ℕ) (w : List ℕ) (many : ℕ) : Type 0 where
  pub is : starts_at w n 0 many ≡ starts (blocks_at w n)
