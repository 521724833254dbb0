-- The rows of W after the first stage, byte for byte: the block with its settled kind, its turn, and the links. Assumes nothing.
use Rattle.std.specs.Prelude.{List, [], ◌∷◌, ◌++◌, ℕ, suc, ◌+◌, ◌-◌, eqb, length, replicate}
use Rattle.spec.specs.Opcodes.{in_mode}
use Rattle.spec.specs.Lists.{if, little}
use Rattle.spec.specs.Walk.{instructions}
use Rattle.spec.specs.Blocks.{Kind, terminate, jump, jumpi, dynamic_jump, dynamic_jumpi}
use Rattle.spec.specs.Search.{Node, nodes, Taker, takes, takers}
use Rattle.layout.specs.Rows.{FIRST, LINKS, head_of}
use Rattle.layout.specs.declared.row.BlockType.{BlockType}
use Rattle.initial.specs.Rows.{type_of, row_blocks, blocks_from}

-- ---- the parts of a row: twelve bytes of the block and its turn, the link to the first parent, four bytes of further links, and an entry of the takers

abbrev pub own_bytes : ℕ → BlockType → ℕ → List ℕ
own_bytes end t position = head_of end t ++ little 4 position

abbrev pub link_bytes : ℕ → ℕ → List ℕ
link_bytes to other = little 2 to ++ little 2 other

-- ---- turns: a block takes them or not

abbrev pub turns_of : Node → List Taker
turns_of r = takes r r.block.kind

abbrev pub positioned : List Taker → ℕ
positioned [] = 0
positioned (k ∷ ks) = k.position

-- entry x of some takers, the last of which has entry 0; past them 0
unfoldable pub taker_in : ℕ → List Taker → ℕ
taker_in x [] = 0
taker_in x (k ∷ ks) = if (eqb x (length ks)) k.start (taker_in x ks)

-- ---- parents: the link to t that a block's sides give, or the one that there is already

abbrev pub edge_to : ℕ → ℕ → Kind → ℕ → ℕ
edge_to t a (terminate success) later = later
edge_to t a (jump u) later = if (eqb t u) (a + 1) later
edge_to t a (jumpi u f) later = if (eqb t u) (a + 1) (if (eqb t f) (a + 1) later)
edge_to t a dynamic_jump later = later
edge_to t a (dynamic_jumpi f) later = if (eqb t f) (a + 1) later

-- the link to the first parent of t among some blocks
unfoldable pub first_to : ℕ → List Node → ℕ
first_to t [] = 0
first_to t (r ∷ rs) = edge_to t r.block.start r.block.kind (first_to t rs)

-- the links of a block's two sides to the next parents of the same addresses; equal sides count once
abbrev pub to_past : Kind → List Node → ℕ
to_past (terminate success) rs = 0
to_past (jump u) rs = first_to u rs
to_past (jumpi u f) rs = first_to u rs
to_past dynamic_jump rs = 0
to_past (dynamic_jumpi f) rs = 0

abbrev pub other_past : Kind → List Node → ℕ
other_past (terminate success) rs = 0
other_past (jump u) rs = 0
other_past (jumpi u f) rs = if (eqb u f) 0 (first_to f rs)
other_past dynamic_jump rs = 0
other_past (dynamic_jumpi f) rs = first_to f rs

-- ---- the row of an address, by the block there, if one starts there, and those past it

abbrev pub own_of : List Node → List ℕ
own_of [] = replicate FIRST 0
own_of (r ∷ rs) = own_bytes r.block.end (type_of r.block.kind) (positioned (turns_of r))

abbrev pub links_of : List Node → List Node → List ℕ
links_of [] later = replicate LINKS 0
links_of (r ∷ rs) later = link_bytes (to_past r.block.kind later) (other_past r.block.kind later)

-- the blocks of W's rows, each with its own run: at an address, and from one on
abbrev pub nodes_here : ℕ → List ℕ → List ℕ → ℕ → List Node
nodes_here mode code w a = nodes (in_mode mode) code (instructions code) (row_blocks w a)

abbrev pub nodes_from : ℕ → List ℕ → List ℕ → ℕ → List Node
nodes_from mode code w a = nodes (in_mode mode) code (instructions code) (blocks_from w a (suc (length code) - a))

unfoldable pub row_for : ℕ → List ℕ → List ℕ → ℕ → List ℕ
row_for mode code w a =
    let all = nodes_from mode code w 0 in
    own_of (nodes_here mode code w a) ++ (little 2 (first_to a all) ++ (links_of (nodes_here mode code w a) (nodes_from mode code w (suc a)) ++ little 2 (taker_in a (takers all))))
