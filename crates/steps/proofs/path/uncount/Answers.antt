-- `uncount`: the counts are those of the addresses left. Assumes nothing.
use Rattle.steps.proofs.Counting.{uncount-room, uncount-some, uncount-turn}
use Rattle.steps.proofs.path.uncount.Goals as goal

pub get32-requires : goal.get32-requires
get32-requires c = search uncount-room

pub overflow_sub-get32 : goal.overflow_sub-get32
overflow_sub-get32 c = search uncount-some

pub put32-requires : goal.put32-requires
put32-requires c = search uncount-room

pub loop-i-preserved : goal.loop-i-preserved
loop-i-preserved c = search uncount-turn
