-- `write_entries`: if there is room, what stands behind the head is put, and then the head. Assumes nothing.
use mathlib.Core.Path.{refl}
use borrow.Author.Rules.{rules}
use Rattle.entries.proofs.Writing.{holds-any, writes-room, writes_body, write-refused, write-answered}
use Rattle.entries.proofs.found.Found.write_entries.Goals as goal

pub begin_of-ends-requires : goal.begin_of-ends-requires
begin_of-ends-requires c = search writes-room

pub entries_fit-requires : goal.entries_fit-requires
entries_fit-requires c = holds-any c.requires

pub returns-then-not-entries_fit : goal.returns-then-not-entries_fit
returns-then-not-entries_fit c = search write-refused

pub add_body-blocks-requires : goal.add_body-blocks-requires
add_body-blocks-requires c = (search writes_body, search rules, search rules)

pub returns : goal.returns
returns c = let told = c.out-1.given.1.1 in
    write-answered c.entries_fit.ensures _ (search rules) c.if-not-entries_fit.false c.add_body-blocks.ensures.1 refl c.add_body-blocks.ensures.0 c.add_map_head.ensures told
