-- `seven_at` meets its contract: the leading bytes of a whole entry tell. Assumes nothing.
use Rattle.reader.proofs.Leads.{seven-cut, seven-whole}
use Rattle.reader.proofs.run.seven_at.Goals as goal

pub returns-in-Some : goal.returns-in-Some
returns-in-Some c = search seven-whole

pub returns-in-None : goal.returns-in-None
returns-in-None c = search seven-cut
