-- `add_block`: an item, and after it the entries, if there can be any. Assumes nothing.
use borrow.Author.Rules.{rules}
use Rattle.entries.proofs.Blocks.{block-linked, block_of, type-some, block-static, block-dynamic}
use Rattle.entries.proofs.found.Found.add_block.Goals as goal

pub unwrap-block-requires : goal.unwrap-block-requires
unwrap-block-requires c = search type-some

pub add_head-requires : goal.add_head-requires
add_head-requires c = (search block_of, search rules)

pub returns-then-not-is_dynamic : goal.returns-then-not-is_dynamic
returns-then-not-is_dynamic c = search block-static

pub count_entries-count-requires : goal.count_entries-count-requires
count_entries-count-requires c = search block-linked

pub add_head-requires-2 : goal.add_head-requires-2
add_head-requires-2 c = (search block_of, search rules)

pub add_entries-requires : goal.add_entries-requires
add_entries-requires c = (search block-linked, search rules, search rules)

pub returns : goal.returns
returns c = search block-dynamic
