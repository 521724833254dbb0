-- The static edges of the blocks that stand in the rows of W. Assumes nothing.
use Rattle.std.specs.Prelude.{◌≡◌, List, ◌++◌, map, ℕ, Option, option_to_list}
use Rattle.spec.specs.Lists.{gather, mem}
use Rattle.spec.specs.Blocks.{Block}
use Rattle.spec.specs.Reach.{Edge, edge}
use Rattle.spec.specs.Search.{sides}
use Rattle.initial.specs.Rows.{row_blocks, blocks_at}

-- the static sides of the block that starts at an address, none where no block does
unfoldable pub sides_at : List ℕ → ℕ → List ℕ
sides_at w a = gather (λ (b : Block). sides b.kind) (row_blocks w a)

-- the two are the static sides of the block that starts at an address; equal sides count once, and none are where no block starts
pub record SidesOf (w : List ℕ) (a : ℕ) (to other : Option ℕ) : Type 0 where
  pub same : (t : ℕ) → mem t (sides_at w a) ≡ mem t (option_to_list to ++ option_to_list other)

-- the edges of blocks, as the search has them
unfoldable pub block_edges : List Block → List Edge
block_edges = gather (λ (b : Block). map (edge b.start b.start) (sides b.kind))

-- those of the rows of a code of n bytes
unfoldable pub row_edges : List ℕ → ℕ → List Edge
row_edges w n = block_edges (blocks_at w n)
