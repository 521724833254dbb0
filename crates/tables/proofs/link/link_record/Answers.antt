-- `link_record`: the row stands at the head of its bucket, and behind the found parents of its destination. Assumes nothing.
use Rattle.tables.proofs.Links.{linked-none, links-parent, linked-found}
use Rattle.tables.proofs.link.link_record.Goals as goal

pub link_parent-requires : goal.link_parent-requires
link_parent-requires c = search links-parent

pub returns-in-Some : goal.returns-in-Some
returns-in-Some c = search linked-found

pub returns-in_default : goal.returns-in_default
returns-in_default c = search linked-none
