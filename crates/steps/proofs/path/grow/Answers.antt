-- `grow`: a direct parent's address is stored, a found one's path is copied. Assumes nothing.
use borrow.Author.Rules.{rules}
use Rattle.steps.proofs.Growing.{direct-short, direct-grown, found-rises, found-source, found-short, found-grown}
use Rattle.steps.proofs.path.grow.Goals as goal

pub returns-then-room-np : goal.returns-then-room-np
returns-then-room-np c = search direct-short

pub returns-then-at-lt-FOUND : goal.returns-then-at-lt-FOUND
returns-then-at-lt-FOUND c = search direct-grown

pub overflow_sub-len : goal.overflow_sub-len
overflow_sub-len c = search found-rises

pub returns-then-room-np-2 : goal.returns-then-room-np-2
returns-then-room-np-2 c = search found-short

pub copy-requires : goal.copy-requires
copy-requires c = (search rules, search found-source)

pub returns : goal.returns
returns c = search found-grown
