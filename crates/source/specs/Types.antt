-- src/control_flow_graph/mod.rs, its types. They stand apart from its functions, which call initial.rs, reachable.rs and resolver.rs, since those name the
-- types: modules may not use one another in a circle. What serde makes a text of is these types too, so they are the definitions' of Json. Assumes nothing.
use Rattle.std.specs.Prelude.{ℕ, List}
pub use Rattle.spec.specs.Json.{Way as Dynamic, BlockType, Terminate, Jump, Jumpi, DynamicJump, DynamicJumpi, Shown as RustBlock}

-- lines 25 to 36: `struct Block` is Json's Shown

-- lines 41 to 46: `struct DynamicJump` is Json's Way

-- lines 55 to 85: `enum BlockType` is Json's

-- lines 25 to 36: a `Block` of its fields
abbrev pub rust_block : ℕ → ℕ → ℕ → BlockType → RustBlock
rust_block i s e t = record { id = i; start = s; end = e; btype = t }

-- line 35: the field `btype`, set
abbrev pub with_type : BlockType → RustBlock → RustBlock
with_type t b = rust_block b.id b.start b.end t

-- lines 90 to 94: `BTreeMap<usize, Block>`, the one field of `ControlFlowGraph`
abbrev pub Blocks : Type 0
Blocks = List (ℕ × RustBlock)
