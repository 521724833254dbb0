-- `link_parent`: the chain was empty, or its last record gets a next. Assumes nothing.
use Rattle.tables.proofs.Links.{last-reads, joined-first, joined-next}
use Rattle.tables.proofs.link.link_parent.Goals as goal

pub returns-then-last-eq0 : goal.returns-then-last-eq0
returns-then-last-eq0 c = search joined-first

pub put32-requires-2 : goal.put32-requires-2
put32-requires-2 c = search last-reads

pub returns : goal.returns
returns c = search joined-next
