-- `write_text`: the whole is put. Assumes nothing.
use mathlib.Core.Path.{refl}
use borrow.Author.Rules.{rules}
use Rattle.entries.proofs.Writing.{writes-room, writes-all}
use Rattle.json_text.proofs.Ended.{text-answered}
use Rattle.json_text.proofs.whole.write_text.Goals as goal

pub begin_of-ends-requires : goal.begin_of-ends-requires
begin_of-ends-requires c = search writes-room

pub add_map-requires : goal.add_map-requires
add_map-requires c = (search writes-all, search rules, search rules)

pub returns : goal.returns
returns c = let told = c.out-1.given.1.1 in
    text-answered c.requires.0 c.requires.2 refl c.add_map.ensures told
