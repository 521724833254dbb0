-- `add_block`: what stands before its type, and what from there on. Assumes nothing.
use borrow.Author.Rules.{rules}
use Rattle.entries.proofs.Blocks.{block-linked, type-some}
use Rattle.json_text.proofs.Types.{block_room, block-small, sides, block-put}
use Rattle.json_text.proofs.block.add_block.Goals as goal

pub unwrap-block-requires : goal.unwrap-block-requires
unwrap-block-requires c = search type-some

pub add_front-requires : goal.add_front-requires
add_front-requires c = (search block_room, search block-small, search rules)

pub add_type-requires : goal.add_type-requires
add_type-requires c = (search block-linked, search rules, search sides, search rules)

pub returns : goal.returns
returns c = search block-put
