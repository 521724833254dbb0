-- `last_block`: a direct parent's own block, or the last address of a found one's path. Assumes nothing.
use borrow.Author.Rules.{rules}
use Rattle.steps.proofs.Clips.{path-asked, last-direct, last_found}
use Rattle.steps.proofs.cursor.last_block.Goals as goal

pub returns-then-at-lt-FOUND : goal.returns-then-at-lt-FOUND
returns-then-at-lt-FOUND c = search last-direct

pub overflow_sub-get32 : goal.overflow_sub-get32
overflow_sub-get32 c = let h = path-asked c.requires c.if-at-lt-FOUND.false c.get32.ensures in search rules

pub get16-requires : goal.get16-requires
get16-requires c = let h = path-asked c.requires c.if-at-lt-FOUND.false c.get32.ensures in search rules

pub returns : goal.returns
returns c = search last_found
