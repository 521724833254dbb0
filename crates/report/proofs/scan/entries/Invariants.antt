-- `entries` meets its contract: what is counted so far and what is still to come are the whole, and the reader's scan judges it. The measure is what is
-- left of the bytes. Assumes nothing.
use Prim.Native.Nat.{◌-◌}
use lib.ListN.{length}
use Rattle.report.proofs.Scanned.{Passes}
use Rattle.report.proofs.scan.entries.Given as goal

abbrev pub invariant-loop-scan : goal.invariant-loop-scan
invariant-loop-scan l = Passes l.map l.head.behind l.scan l.counts l.hand

abbrev pub decreases-loop-scan : goal.decreases-loop-scan
decreases-loop-scan l = length l.map - l.scan.at
