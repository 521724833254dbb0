-- The row of the block at an address, in W: kind (2 bytes, of which the second is 0; 0 where no block starts), end (2), to or true side (2), false side
-- (2), position (4), first parent link (2), next link of each side (2, 2), and the taker (2) that has the row's number, whichever block that is. All from
-- the position on is 0 until the blocks are prepared.
-- Assumes nothing.
use Rattle.std.specs.Prelude.{◌≡◌, true, false, List, [], ◌∷◌, ◌++◌, ℕ, zero, suc, ◌+◌, ◌-◌, ◌<◌, eqb, Option, Some, None}
use Rattle.spec.specs.Lists.{if, little}
use Rattle.lent.specs.Bytes.{num_at, Stored}
use Rattle.layout.specs.Parts.{row_place, start_place}
use Rattle.layout.specs.declared.row.RowType.{RowType}
use Rattle.layout.specs.declared.row.BlockType.{BlockType}
use Rattle.layout.specs.declared.row.BlockType.TheVariants.{Terminate, Jump, Jumpi, DynamicJump, DynamicJumpi}

-- ---- where a row has its fields

abbrev pub END : ℕ
END = 2

abbrev pub TO : ℕ
TO = 4

abbrev pub OTHER : ℕ
OTHER = 6

abbrev pub POSITION : ℕ
POSITION = 8

abbrev pub FIRST : ℕ
FIRST = 12

abbrev pub NEXT : ℕ
NEXT = 14

abbrev pub NEXT-OTHER : ℕ
NEXT-OTHER = 16

abbrev pub TAKER : ℕ
TAKER = 18

-- how many bytes the links past the first have
abbrev pub LINKS : ℕ
LINKS = 4

-- ---- the block's type, which its first bytes say

-- how many they are, and how many follow
abbrev pub BLOCK : ℕ
BLOCK = 8

abbrev pub REST : ℕ
REST = 12

-- three numbers say it; any of them may stand there, whether or not a kind has it. What is `typed`, `type_at`, `head_of` of the enum below is `numbered`,
-- `numbers_at`, `row_head` of the numbers, and what is `BlockIs`, `PutBlock` is `TypeIs`, `Put`.
abbrev pub numbered : ℕ → ℕ → ℕ → RowType
numbered k to other = record { kind = k; to = to; other = other }

abbrev pub tag_at : List ℕ → ℕ → ℕ
tag_at w a = num_at 1 w (row_place a)

-- those in the row of a
abbrev pub numbers_at : List ℕ → ℕ → RowType
numbers_at w a = numbered (tag_at w a) (num_at 2 w (row_place a + TO)) (num_at 2 w (row_place a + OTHER))

-- and what is written of them
abbrev pub row_head : ℕ → RowType → List ℕ
row_head end t = little 2 t.kind ++ (little 2 end ++ (little 2 t.to ++ little 2 t.other))

-- the block from a to end was written, by these numbers
pub record Put (w : List ℕ) (a end : ℕ) (t : RowType) (w' : List ℕ) : Type 0 where
  pub stored : Stored BLOCK w (row_place a) (row_head end t) w'

-- t is the three numbers that stand in the row of a
pub record TypeIs (w : List ℕ) (a : ℕ) (t : RowType) : Type 0 where
  pub is : t ≡ numbers_at w a
  pub to : t.to < 65536
  pub other : t.other < 65536

-- ---- the same as an enum, which has the sides of its kind alone

-- what is written of a type: the kind's byte, and the two sides; one that the kind does not have is 0
abbrev pub tag_of : BlockType → ℕ
tag_of (Terminate false) = 1
tag_of (Terminate true) = 2
tag_of (Jump to) = 3
tag_of (Jumpi to other) = 4
tag_of DynamicJump = 5
tag_of (DynamicJumpi other) = 6

abbrev pub to_of : BlockType → ℕ
to_of (Terminate success) = 0
to_of (Jump to) = to
to_of (Jumpi to other) = to
to_of DynamicJump = 0
to_of (DynamicJumpi other) = 0

abbrev pub other_of : BlockType → ℕ
other_of (Terminate success) = 0
other_of (Jump to) = 0
other_of (Jumpi to other) = other
other_of DynamicJump = 0
other_of (DynamicJumpi other) = other

-- its three numbers
abbrev pub numbers_of : BlockType → RowType
numbers_of t = numbered (tag_of t) (to_of t) (other_of t)

-- and the type that is read back where a block starts
unfoldable pub typed : ℕ → ℕ → ℕ → BlockType
typed k to other =
    if (eqb k 1) (Terminate false)
    (if (eqb k 2) (Terminate true)
    (if (eqb k 3) (Jump to)
    (if (eqb k 4) (Jumpi to other)
    (if (eqb k 5) DynamicJump (DynamicJumpi other)))))

unfoldable pub read_as : ℕ → ℕ → ℕ → Option BlockType
read_as k to other = if (eqb k 0) None (Some (typed k to other))

abbrev pub type_at : List ℕ → ℕ → BlockType
type_at w a = typed (tag_at w a) (num_at 2 w (row_place a + TO)) (num_at 2 w (row_place a + OTHER))

-- the type in the row of a, if a block starts there
abbrev pub read_at : List ℕ → ℕ → Option BlockType
read_at w a = read_as (tag_at w a) (num_at 2 w (row_place a + TO)) (num_at 2 w (row_place a + OTHER))

abbrev pub head_of : ℕ → BlockType → List ℕ
head_of end t = little 2 (tag_of t) ++ (little 2 end ++ (little 2 (to_of t) ++ little 2 (other_of t)))

-- the block from a to end was written
pub record PutBlock (w : List ℕ) (a end : ℕ) (t : BlockType) (w' : List ℕ) : Type 0 where
  pub stored : Stored BLOCK w (row_place a) (head_of end t) w'

-- t is the type that stands in the row of a
pub record BlockIs (w : List ℕ) (a : ℕ) (t : Option BlockType) : Type 0 where
  pub is : t ≡ read_at w a
  pub to : num_at 2 w (row_place a + TO) < 65536
  pub other : num_at 2 w (row_place a + OTHER) < 65536

-- ---- the fields past it: turns, and links to direct parents

-- the position that the block asks for, where it takes turns
abbrev pub position_at : List ℕ → ℕ → ℕ
position_at w a = num_at 4 w (row_place a + POSITION)

-- entry i of the blocks that take turns, which stands in row i: its start
abbrev pub taker_at : List ℕ → ℕ → ℕ
taker_at w i = num_at 2 w (row_place i + TAKER)

-- the link to the first direct parent of the address t: its block's start and 1
abbrev pub first_at : List ℕ → ℕ → ℕ
first_at w t = num_at 2 w (row_place t + FIRST)

-- the start of the block that a link leads to
abbrev pub start_of : ℕ → ℕ
start_of link = link - 1

-- the link of the block at a to the next parent of t: that of the true side, if this leads to t, else that of the false side
abbrev pub next_of : List ℕ → ℕ → ℕ → ℕ
next_of w t a = if (eqb (num_at 2 w (row_place a + TO)) t) (num_at 2 w (row_place a + NEXT)) (num_at 2 w (row_place a + NEXT-OTHER))

abbrev pub next_at : List ℕ → ℕ → ℕ → ℕ
next_at w t link = next_of w t (start_of link)

-- ---- the list of the blocks' starts: what the m entries from i on say

unfoldable pub starts_at : List ℕ → ℕ → ℕ → ℕ → List ℕ
starts_at w n i zero = []
starts_at w n i (suc m) = num_at 2 w (start_place n i) ∷ starts_at w n (suc i) m
