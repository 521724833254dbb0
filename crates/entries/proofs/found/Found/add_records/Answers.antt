-- `add_records`: the first i are put. Assumes nothing.
use Rattle.entries.proofs.RecordsLoop.{record-start, record-row, record-turn, record-done}
use Rattle.entries.proofs.found.Found.add_records.Goals as goal

pub loop-row-init : goal.loop-row-init
loop-row-init c = search record-start

pub add_record-requires : goal.add_record-requires
add_record-requires c = search record-row

pub loop-row-preserved : goal.loop-row-preserved
loop-row-preserved c = search record-turn

pub returns : goal.returns
returns c = search record-done
