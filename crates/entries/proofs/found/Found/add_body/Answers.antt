-- `add_body`: the blocks, and then the records. Assumes nothing.
use borrow.Author.Rules.{rules}
use Rattle.entries.proofs.Mapping.{body-put, body-far}
use Rattle.entries.proofs.found.Found.add_body.Goals as goal

pub add_records-requires : goal.add_records-requires
add_records-requires c = (search rules, search body-far)

pub returns : goal.returns
returns c = (search body-put, search rules)
