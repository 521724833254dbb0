-- What each function asks and promises, a record each. Assumes nothing.
use Rattle.std.specs.Prelude.{◌≡◌, List, map, ℕ, ◌+◌, ◌-◌, ◌^◌, ◌≤◌, ◌<◌, length, take, drop}
use Rattle.std.proofs.Math.Option.{Option}
use Rattle.spec.specs.Opcodes.{row, in_mode}
use Rattle.spec.specs.Walk.{walk, instructions, from}
use Rattle.spec.specs.Blocks.{blocks}
use Rattle.spec.specs.Stacks.{Sym}
use Rattle.spec.specs.Search.{Node, takers}
use Rattle.spec.specs.Answer.{prepared}
use Rattle.spec.specs.Rooms.{longest}
use Rattle.lent.specs.Bytes.{num_at}
use Rattle.layout.specs.Parts.{ROW, row_place, rows_end, starts_place, start_place}
use Rattle.layout.specs.Rows.{TO, OTHER, tag_at, type_at, numbers_at, first_at, start_of}
use Rattle.layout.specs.declared.row.BlockType.{BlockType}
use Rattle.initial.specs.Rows.{blocks_at, Laid, Listed}
use Rattle.exec.specs.Owns.{room_of}
use Rattle.parents.specs.Links.{Parents, turn_of, Takers, direct_to, from_of}
use Rattle.parents.specs.Rows.{row_for}
use Rattle.parents.specs.Writes.{link_sides, place, many_past, goes_at}

-- ---- what is lent: the rows as `initial_blocks` leaves them, and past them a part for the runs, which ends at `end`

pub record Lent (code w : List ℕ) (end : ℕ) : Type 0 where
  pub short : length code ≤ longest
  pub same : blocks_at w (length code) ≡ blocks row code (instructions code)
  pub laid : Laid w (length code)
  pub room : rows_end (length code) + room_of code ≤ end
  pub inside : end ≤ length w

-- and past that part the list of the blocks' starts, with an entry for each block
pub record LentStarts (code w : List ℕ) (end blocks : ℕ) : Type 0 where
  pub listed : Listed (length code) w blocks
  pub before : end ≤ starts_place (length code)
  pub lent : start_place (length code) blocks ≤ length w

-- W changed in its rows and in the part for the runs alone
pub record Beside (code w : List ℕ) (end : ℕ) (w' : List ℕ) : Type 0 where
  pub between : take (end - room_of code - rows_end (length code)) (drop (rows_end (length code)) w') ≡ take (end - room_of code - rows_end (length code)) (drop (rows_end (length code)) w)
  pub past : drop end w' ≡ drop end w
  pub kept : length w' ≡ length w

-- ---- one side, and the sides of a block

pub record LinkRoom (w : List ℕ) (a side t : ℕ) : Type 0 where
  pub own : row_place a + ROW ≤ length w
  pub to : row_place t + ROW ≤ length w
  pub one : side ≤ 1

pub record Sides (w : List ℕ) (a : ℕ) : Type 0 where
  pub own : row_place a + ROW ≤ length w
  pub to : row_place (num_at 2 w (row_place a + TO)) + ROW ≤ length w
  pub other : row_place (num_at 2 w (row_place a + OTHER)) + ROW ≤ length w

-- w became w', which is v
pub record Wrote (w w' v : List ℕ) : Type 0 where
  pub is : w' ≡ v
  pub kept : length w' ≡ length w

-- ---- the first stage of one block

pub record Settles (code w : List ℕ) (end a many : ℕ) : Type 0 where
  pub stands : 5 ≤ tag_at w a → from a (instructions code) ≡ walk (drop a code) a 0
  pub short : length code ≤ longest
  pub row : a ≤ length code
  pub few : many ≤ length code
  pub room : rows_end (length code) + room_of code ≤ end
  pub inside : end ≤ length w

-- the rows that are written where the block at a is to take turns: its own, and that of its entry
pub record TurnRoom (w : List ℕ) (a many : ℕ) : Type 0 where
  pub own : row_place a + ROW ≤ length w
  pub next : row_place many + ROW ≤ length w

-- the run changed its part alone
pub record Ran (code w : List ℕ) (end : ℕ) (w' : List ℕ) : Type 0 where
  pub front : take (end - room_of code) w' ≡ take (end - room_of code) w
  pub back : drop end w' ≡ drop end w
  pub kept : length w' ≡ length w

pub record Settled (mode : ℕ) (code w : List ℕ) (end a many : ℕ) (w' : List ℕ) (r : ℕ) : Type 0 where
  pub after : List ℕ
  pub ran : Ran code w end after
  pub is : w' ≡ place after a (type_at w a) (goes_at mode code w a) many
  pub count : r ≡ many_past (goes_at mode code w a) many
  pub kept : length w' ≡ length w

pub record Placed (w : List ℕ) (a : ℕ) (t : BlockType) (goes : Option Sym) (many : ℕ) (w' : List ℕ) (r : ℕ) : Type 0 where
  pub is : w' ≡ place w a t goes many
  pub count : r ≡ many_past goes many
  pub kept : length w' ≡ length w

-- ---- both stages of one row

-- whatever the first stage leaves, the sides lie in the rows
pub record PreparesRow (mode : ℕ) (code w : List ℕ) (end a many : ℕ) : Type 0 where
  pub settles : Settles code w end a many
  pub sides : (v : List ℕ) (r : ℕ) → Settled mode code w end a many v r → Sides v a

-- the row is settled, and then its sides are linked
pub record PreparedRow (mode : ℕ) (code w : List ℕ) (end a many : ℕ) (w' : List ℕ) (r : ℕ) : Type 0 where
  pub between : List ℕ
  pub settled : Settled mode code w end a many between r
  pub linked : Wrote between w' (link_sides between a (numbers_at between a))
  pub kept : length w' ≡ length w

-- ---- the whole

-- what the rows say of the code: its blocks after the first stage, the `many` that take turns, and the direct parents of each address
pub record Known (mode : ℕ) (code w : List ℕ) (many : ℕ) : Type 0 where
  pub blocks : blocks_at w (length code) ≡ map (λ (x : Node). x.block) (prepared (in_mode mode) code)
  pub takers : Takers w (length code) many (map turn_of (takers (prepared (in_mode mode) code)))
  pub parents : (t : ℕ) → t ≤ length code → Parents w (length code) t (first_at w t) (map from_of (direct_to t (prepared (in_mode mode) code)))

-- the blocks of the code are prepared for the search: every byte of the rows, and what they say; r is how many blocks take turns
pub record Prepared (mode : ℕ) (code w : List ℕ) (end : ℕ) (w' : List ℕ) (r : ℕ) : Type 0 where
  pub row : (a : ℕ) → a ≤ length code → take ROW (drop (row_place a) w') ≡ row_for mode code w a
  pub known : Known mode code w' r
  pub beside : Beside code w end w'

-- ---- the readers

pub record Number (r v k : ℕ) : Type 0 where
  pub is : r ≡ v
  pub small : r < 256 ^ k

-- a link of some parents, whose row is there
pub record Link (w : List ℕ) (link : ℕ) : Type 0 where
  pub some : 1 ≤ link
  pub inside : row_place (start_of link) + ROW ≤ length w
