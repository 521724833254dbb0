-- `add_kept`: the block is kept, or not. Assumes nothing.
use borrow.Author.Rules.{rules}
use Rattle.entries.proofs.Blocks.{block-address, kept-is}
use Rattle.json_text.proofs.Rowed.{kept-far, kept_on, kept_off}
use Rattle.json_text.proofs.kept.add_kept.Goals as goal

pub is_kept-requires : goal.is_kept-requires
is_kept-requires c = (search block-address, search rules)

pub add_block-requires : goal.add_block-requires
add_block-requires c = (search kept-far, search kept-is)

pub returns-then-is_kept : goal.returns-then-is_kept
returns-then-is_kept c = search kept_on

pub returns-else-is_kept : goal.returns-else-is_kept
returns-else-is_kept c = search kept_off
