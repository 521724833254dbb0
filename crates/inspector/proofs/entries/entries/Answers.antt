-- `entries` meets its contract: each way out is a law of its own. Assumes nothing.
use Rattle.theorems.proofs.Bytes.{Bytes}
use Rattle.inspector.proofs.Showing.{looking-start, looking-tables, looking-path, looking-less, looking-right, looking-wrong, looking-of, looking-over}
use Rattle.inspector.proofs.entries.entries.Goals as goal

pub loop-entry-init : goal.loop-entry-init
loop-entry-init c = search looking-start

pub judge-requires : goal.judge-requires
judge-requires c = let bytes : Bytes c.args.replay.map.now = c.args.replay.bytes in record { tables = search looking-tables; in_path = search looking-path }

pub loop-entry-smaller-in_default-judge : goal.loop-entry-smaller-in_default-judge
loop-entry-smaller-in_default-judge c = search looking-less

pub loop-entry-preserved-in_default-judge : goal.loop-entry-preserved-in_default-judge
loop-entry-preserved-in_default-judge c = search looking-right

pub returns-in-Err : goal.returns-in-Err
returns-in-Err c = search looking-wrong

pub loop-entry-smaller : goal.loop-entry-smaller
loop-entry-smaller c = search looking-less

pub loop-entry-preserved : goal.loop-entry-preserved
loop-entry-preserved c = search looking-of

pub returns : goal.returns
returns c = search looking-over
