-- The text of the answer's blocks, read off the rows of W and R and the paths in Q. Assumes nothing.
use Rattle.std.specs.Prelude as std
use Rattle.std.specs.Prelude.{Some, None, true, false, not, List, [], ◌∷◌, ◌++◌, map, ℕ, ◌+◌, eqb}
use Rattle.std.proofs.Math.Option.{Option, none, some}
use Rattle.spec.specs.Lists.{if}
use Rattle.spec.specs.Blocks.{Kind, terminate, jump, jumpi, dynamic_jump, dynamic_jumpi}
use Rattle.spec.specs.Json.{Way, BlockType, Terminate, Jump, Jumpi, DynamicJump, DynamicJumpi, Shown, ascii, decimal, nullable, commas, way_json, block_json, json}
use Rattle.lent.specs.Bytes.{num_at}
use Rattle.layout.specs.Edges.{goal_of}
use Rattle.layout.specs.Marks.{NOWHERE}
use Rattle.layout.specs.Parts.{row_place}
use Rattle.layout.specs.Rows.{END, tag_at}
use Rattle.initial.specs.Rows.{kind_at}
use Rattle.entries.specs.Rows.{path_of, entries_at, kept_below}

-- ---- a list as it grows

-- the texts of some things, with commas
unfoldable pub lined : (ℕ → List ℕ) → List ℕ → List ℕ
lined f is = commas (map f is)

-- what stands before one more, at a place, in a list that began at another
unfoldable pub mark : ℕ → ℕ → List ℕ
mark begin at = if (eqb at begin) [] (ascii ",")

-- what is put for none, or for one more
unfoldable pub next : ℕ → ℕ → (ℕ → List ℕ) → List ℕ → List ℕ
next begin at f [] = []
next begin at f (i ∷ is) = mark begin at ++ f i

-- ---- a row of R

unfoldable pub goal_to : ℕ → Option ℕ
goal_to to = if (not (eqb to NOWHERE)) (some to) none

abbrev pub way_of : List ℕ → List ℕ → ℕ → Way
way_of r q i = record { path = path_of r q i; to = goal_to (goal_of r i) }

abbrev pub said_of : std.Option ℕ → Option ℕ
said_of None = none
said_of (Some to) = some to

-- a way's text behind its path
unfoldable pub goal_text : Option ℕ → List ℕ
goal_text to = ascii "],\"to\":" ++ nullable to ++ ascii "}"

unfoldable pub way_text : List ℕ → List ℕ → ℕ → List ℕ
way_text r q i = way_json (way_of r q i)

-- ---- a block

abbrev pub type_for : List Way → Kind → BlockType
type_for ws (terminate success) = Terminate success
type_for ws (jump t) = Jump t
type_for ws (jumpi t f) = Jumpi t f
type_for ws dynamic_jump = DynamicJump ws
type_for ws (dynamic_jumpi f) = DynamicJumpi ws f

-- the block at a
abbrev pub shown_at : List ℕ → List ℕ → List ℕ → ℕ → ℕ → Shown
shown_at w r q m a =
    record { id = a; start = a; end = num_at 2 w (row_place a + END); btype = type_for (map (way_of r q) (entries_at r m a (tag_at w a))) (kind_at w a) }

unfoldable pub block_text : List ℕ → List ℕ → List ℕ → ℕ → ℕ → List ℕ
block_text w r q m a = block_json (shown_at w r q m a)

-- a block's text in two parts, as they are put: up to its end, and from its type on
unfoldable pub front : ℕ → ℕ → List ℕ
front a end = (ascii "{\"id\":" ++ decimal a) ++ (ascii ",\"start\":" ++ decimal a) ++ (ascii ",\"end\":" ++ decimal end)

unfoldable pub tail : BlockType → List ℕ
tail (Terminate true) = ascii ",\"type\":\"Terminate\",\"data\":{\"success\":true}}"
tail (Terminate false) = ascii ",\"type\":\"Terminate\",\"data\":{\"success\":false}}"
tail (Jump t) = ascii ",\"type\":\"Jump\",\"data\":{\"to\":" ++ decimal t ++ ascii "}}"
tail (Jumpi t f) = (ascii ",\"type\":\"Jumpi\",\"data\":{\"true_to\":" ++ decimal t) ++ (ascii ",\"false_to\":" ++ decimal f) ++ ascii "}}"
tail (DynamicJump ws) = ascii ",\"type\":\"DynamicJump\",\"data\":{\"to\":[" ++ commas (map way_json ws) ++ ascii "]}}"
tail (DynamicJumpi ws f) =
    ascii ",\"type\":\"DynamicJumpi\",\"data\":{\"true_to\":[" ++ commas (map way_json ws) ++ (ascii "],\"false_to\":" ++ decimal f) ++ ascii "}}"

abbrev pub tail_of : List Way → Kind → List ℕ
tail_of ws k = tail (type_for ws k)

-- ---- the whole

unfoldable pub map_text : List ℕ → List ℕ → List ℕ → ℕ → ℕ → List ℕ
map_text w r q n m = json (map (shown_at w r q m) (kept_below w n (n + 1)))
