-- `one` meets its contract: what is left to judge behind the entry ends where the whole does, or the entry is where the scan stops. Assumes nothing.
use Rattle.reader.proofs.Turning.{one-goes, one-stops}
use Rattle.reader.proofs.scan.one.Goals as goal

pub returns-in-Some : goal.returns-in-Some
returns-in-Some c = search one-goes

pub returns-in-None : goal.returns-in-None
returns-in-None c = search one-stops
