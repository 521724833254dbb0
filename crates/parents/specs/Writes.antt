-- What the functions write into W. Assumes nothing.
use Rattle.std.specs.Prelude.{List, ℕ, ◌+◌, ◌*◌, eqb, ltb}
use Rattle.std.proofs.Math.Option.{Option, none, some}
use Rattle.spec.specs.Opcodes.{in_mode}
use Rattle.spec.specs.Lists.{if, little}
use Rattle.spec.specs.Walk.{instructions}
use Rattle.spec.specs.Stacks.{Sym, before, constant, jumpdest, other, run}
use Rattle.lent.specs.Bytes.{num_at, patch}
use Rattle.layout.specs.Parts.{row_place}
use Rattle.layout.specs.Rows.{END, POSITION, FIRST, NEXT, TAKER, tag_at, head_of, first_at}
use Rattle.layout.specs.declared.row.RowType.{RowType}
use Rattle.layout.specs.declared.row.BlockType.{BlockType}
use Rattle.layout.specs.declared.row.BlockType.TheVariants.{Terminate, Jump, Jumpi, DynamicJump, DynamicJumpi}

-- ---- links

-- a side of the block at a is put in front of t's parents
unfoldable pub link : List ℕ → ℕ → ℕ → ℕ → List ℕ
link w a side t = patch (patch w (row_place a + NEXT + 2 * side) (little 2 (first_at w t))) (row_place t + FIRST) (little 2 (a + 1))

-- the sides of a block type, by a row's numbers: "equal sides once", "of a DynamicJumpi the false side only"; a byte that is no kind's has none
unfoldable pub link_sides : List ℕ → ℕ → RowType → List ℕ
link_sides w a t =
    if (eqb t.kind 3) (link w a 0 t.to)
    (if (eqb t.kind 4) (if (eqb t.to t.other) (link w a 0 t.to) (link (link w a 1 t.other) a 0 t.to))
    (if (eqb t.kind 6) (link w a 1 t.other) w))

-- ---- the first stage

-- the block at a takes turns, for a position, and is put behind the `many` that there are
unfoldable pub take_turn : List ℕ → ℕ → ℕ → ℕ → List ℕ
take_turn w a p many = patch (patch w (row_place a + POSITION) (little 4 p)) (row_place many + TAKER) (little 2 a)

-- the static type of a dynamic block
abbrev pub static_type : BlockType → ℕ → BlockType
static_type (Terminate success) to = Jumpi to 0
static_type (Jump t) to = Jumpi to 0
static_type (Jumpi t f) to = Jumpi to f
static_type DynamicJump to = Jump to
static_type (DynamicJumpi f) to = Jumpi to f

-- "each dynamic block whose own run ends in Jumpdest becomes static, with no test that a block starts there"
abbrev pub make_static : List ℕ → ℕ → BlockType → ℕ → List ℕ
make_static w a t to = patch w (row_place a) (head_of (num_at 2 w (row_place a + END)) (static_type t to))

-- the block at a, of type t, is settled by the symbol that its run goes to
unfoldable pub place : List ℕ → ℕ → BlockType → Option Sym → ℕ → List ℕ
place w a t none many = w
place w a t (some (before p)) many = take_turn w a p many
place w a t (some (constant v)) many = w
place w a t (some (jumpdest to)) many = make_static w a t to
place w a t (some (other pc)) many = w

abbrev pub many_past : Option Sym → ℕ → ℕ
many_past none many = many
many_past (some (before p)) many = many + 1
many_past (some (constant v)) many = many
many_past (some (jumpdest to)) many = many
many_past (some (other pc)) many = many

-- where the run of a dynamic block goes; others are not run
unfoldable pub goes_at : ℕ → List ℕ → List ℕ → ℕ → Option Sym
goes_at mode code w a = if (ltb (tag_at w a) 5) none (run (in_mode mode) code (instructions code) a).goes
