-- `add_path`: i addresses are put. Assumes nothing.
use borrow.Author.Rules.{rules}
use Rattle.json_text.proofs.Ways.{path-start, path_room, path-turn, path-done}
use Rattle.json_text.proofs.way.add_path.Goals as goal

pub loop-i-init : goal.loop-i-init
loop-i-init c = search path-start

pub add_address-requires : goal.add_address-requires
add_address-requires c = (search rules, search path_room)

pub loop-i-preserved : goal.loop-i-preserved
loop-i-preserved c = search path-turn

pub returns : goal.returns
returns c = search path-done
