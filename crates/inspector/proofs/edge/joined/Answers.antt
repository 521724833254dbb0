-- `joined` meets its contract: each way out is a law of its own. Assumes nothing.
use Rattle.inspector.proofs.Tabling.{joined-sum, joined-place, joined-fits, joined-known, joined-none, joined-near}
use Rattle.inspector.proofs.edge.joined.Goals as goal

pub overflow_add-at-2 : goal.overflow_add-at-2
overflow_add-at-2 c = search joined-sum

pub overflow_mul-at-3 : goal.overflow_mul-at-3
overflow_mul-at-3 c = search joined-place

pub get64-requires : goal.get64-requires
get64-requires c = search joined-fits

pub returns-then-get64-pair : goal.returns-then-get64-pair
returns-then-get64-pair c = search joined-known

pub returns-then-not-near : goal.returns-then-not-near
returns-then-not-near c = search joined-none

pub put64-requires : goal.put64-requires
put64-requires c = search joined-fits

pub returns : goal.returns
returns c = search joined-near
