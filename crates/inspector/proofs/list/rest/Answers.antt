-- `rest` meets its contract: each way out is a law of its own. Assumes nothing.
use Rattle.inspector.proofs.Rowing.{rest-start, rest-walking, rest-tables, rest-within, rest_over, rest-less, rest-full, rest_sum, rest-on}
use Rattle.inspector.proofs.list.rest.Goals as goal

pub loop-wrong-init : goal.loop-wrong-init
loop-wrong-init c = search rest-start

pub entries-requires : goal.entries-requires
entries-requires c = record { walking = search rest-walking; tables = search rest-tables }

pub put_row-requires : goal.put_row-requires
put_row-requires c = search rest-within

pub returns-then-not-put_row : goal.returns-then-not-put_row
returns-then-not-put_row c = search rest-full

pub overflow_add-at : goal.overflow_add-at
overflow_add-at c = search rest_sum

pub loop-wrong-smaller : goal.loop-wrong-smaller
loop-wrong-smaller c = search rest-less

pub loop-wrong-preserved : goal.loop-wrong-preserved
loop-wrong-preserved c = search rest-on

pub returns : goal.returns
returns c = search rest_over
