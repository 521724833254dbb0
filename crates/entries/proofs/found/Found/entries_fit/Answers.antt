-- `entries_fit`: the most that there can be is no more, or the whole is counted. Assumes nothing.
use borrow.Author.Rules.{rules}
use Rattle.entries.proofs.Writing.{writes-few, writes-room, writes_body, flags-few, fits-surely, fits-counted}
use Rattle.entries.proofs.found.Found.entries_fit.Goals as goal

pub begin_of-ends-requires : goal.begin_of-ends-requires
begin_of-ends-requires c = search writes-room

pub most_of-requires : goal.most_of-requires
most_of-requires c = (search flags-few, search writes-few, search rules)

pub returns-then-most_of-room : goal.returns-then-most_of-room
returns-then-most_of-room c = search fits-surely

pub size_of-requires : goal.size_of-requires
size_of-requires c = (search writes_body, search rules)

pub returns : goal.returns
returns c = search fits-counted
