-- `after_record` meets its contract: each way out is a law of the order. Assumes nothing.
use Rattle.reader.proofs.Classing.{record-owed, record-met}
use Rattle.reader.proofs.class.after_record.Goals as goal

pub returns-then-left-ne0 : goal.returns-then-left-ne0
returns-then-left-ne0 c = search record-owed

pub returns-else-left-ne0 : goal.returns-else-left-ne0
returns-else-left-ne0 c = search record-met
