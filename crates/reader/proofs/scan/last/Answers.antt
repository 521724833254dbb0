-- `last` meets its contract, for each order in which the entries may end. Assumes nothing.
use Rattle.reader.proofs.Resting.{last-owed, last-met}
use Rattle.reader.proofs.scan.last.Goals as goal

pub returns-then-left-ne0 : goal.returns-then-left-ne0
returns-then-left-ne0 c = search last-owed

pub returns-else-left-ne0 : goal.returns-else-left-ne0
returns-else-left-ne0 c = search last-met
