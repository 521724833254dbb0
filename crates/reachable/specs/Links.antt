-- The edges that rows of R hold, and the rows of a key: those of a place, or of a witness. Assumes nothing.
use Rattle.std.specs.Prelude.{List, [], ◌∷◌, ◌++◌, ℕ, zero, suc, ◌+◌, eqb, Option, Some, None}
use Rattle.spec.specs.Lists.{if}
use Rattle.spec.specs.Reach.{Edge, edge}
use Rattle.layout.specs.Edges.{key_at, to_at}
use Rattle.layout.specs.Marks.{NOWHERE}

-- the link to a row: its number and 1 more, or 0 for none
abbrev pub link_of : Option ℕ → ℕ
link_of None = 0
link_of (Some i) = i + 1

-- the first, of the k rows from i on, that has the key x
unfoldable pub first_from : List ℕ → ℕ → ℕ → ℕ → ℕ → ℕ
first_from r by x i zero = 0
first_from r by x i (suc k) =
    let later = first_from r by x (i + 1) k in
    if (eqb (key_at r by i) x) (i + 1) later

-- the edge of row i, if it has one
unfoldable pub edge_at : List ℕ → ℕ → List Edge
edge_at r i = if (eqb (to_at r i) NOWHERE) [] (edge (key_at r 0 i) (key_at r 4 i) (to_at r i) ∷ [])

-- those of the first m rows
unfoldable pub edges_at : List ℕ → ℕ → List Edge
edges_at r zero = []
edges_at r (suc m) = edges_at r m ++ edge_at r m
