-- `add_map`: the blocks, in brackets. Assumes nothing.
use borrow.Author.Rules.{rules}
use Rattle.json_text.proofs.Rowed.{blocks_from, map-put}
use Rattle.json_text.proofs.whole.add_map.Goals as goal

pub add_blocks-requires : goal.add_blocks-requires
add_blocks-requires c = (search blocks_from, search rules, search rules)

pub returns : goal.returns
returns c = search map-put
