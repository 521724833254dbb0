-- The definitions' records and blocks as the Rust tells them: Json's, under their starts. Assumes nothing.
use Rattle.std.specs.Prelude.{ℕ, List}
use Rattle.spec.specs.Blocks.{Kind, Block}
use Rattle.spec.specs.Search.{Rec}
use Rattle.spec.specs.Ending.{Final}
pub use Rattle.spec.specs.Json.{dest_of as to_of, way_for as jump_of}
use Rattle.spec.specs.Json.{type_of as btype_of}
use Rattle.source.specs.Types.{BlockType, RustBlock, rust_block}

abbrev pub type_of : Kind → List Rec → BlockType
type_of kind entries = btype_of entries kind

-- a block with its entries
abbrev pub shown : Block → List Rec → ℕ × RustBlock
shown b entries = (b.start, rust_block b.id b.start b.end (type_of b.kind entries))

abbrev pub view : Final → ℕ × RustBlock
view f = shown f.block f.entries
