-- `add_kept`: the block is kept, or not. Assumes nothing.
use borrow.Author.Rules.{rules}
use Rattle.entries.proofs.Blocks.{block-address, keeps_on, keeps-off, kept-is, kept_on, kept_off}
use Rattle.entries.proofs.found.Found.add_kept.Goals as goal

pub is_kept-requires : goal.is_kept-requires
is_kept-requires c = (search block-address, search rules)

pub add_block-requires : goal.add_block-requires
add_block-requires c = (search rules, search kept-is)

pub returns-then-is_kept : goal.returns-then-is_kept
returns-then-is_kept c = (search kept_on, search keeps_on)

pub returns : goal.returns
returns c = (search kept_off, search keeps-off)
