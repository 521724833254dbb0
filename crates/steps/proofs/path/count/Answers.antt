-- `count`: the counts are those of the addresses passed. Assumes nothing.
use Rattle.steps.proofs.Counting.{count_room, count_turn}
use Rattle.steps.proofs.path.count.Goals as goal

pub get32-requires : goal.get32-requires
get32-requires c = search count_room

pub put32-requires : goal.put32-requires
put32-requires c = search count_room

pub loop-i-preserved : goal.loop-i-preserved
loop-i-preserved c = search count_turn
