-- `after_way` meets its contract: each way out is a law of the order. Assumes nothing.
use Rattle.reader.proofs.Classing.{way-none, way-one}
use Rattle.reader.proofs.class.after_way.Goals as goal

pub returns-then-left-eq0 : goal.returns-then-left-eq0
returns-then-left-eq0 c = search way-none

pub returns-else-left-eq0 : goal.returns-else-left-eq0
returns-else-left-eq0 c = search way-one
