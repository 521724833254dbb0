-- `rest` meets its contract: what is left to judge ends where the whole does. The measure is what is left of the bytes. Assumes nothing.
use Rattle.reader.proofs.Resting.{Scans}
use lib.ListN.{length}
use Prim.Native.Nat.{◌-◌}
use Rattle.reader.proofs.scan.rest.Given as goal

abbrev pub invariant-loop-scan : goal.invariant-loop-scan
invariant-loop-scan l = Scans l.map l.from l.scan

abbrev pub decreases-loop-scan : goal.decreases-loop-scan
decreases-loop-scan l = length l.map - l.scan.at
