-- `entries` meets its contract: the scan goes over the first map's own entries, and judges as the reader does. The measure is what is left of that map.
-- Assumes nothing.
use Rattle.salvage.proofs.Firsts.{Owned}
use Rattle.spec.specs.Salvage.{first_map}
use lib.ListN.{length}
use Prim.Native.Nat.{◌-◌}
use Rattle.salvage.proofs.first.entries.Given as goal

abbrev pub invariant-loop-scan : goal.invariant-loop-scan
invariant-loop-scan l = Owned l.archive l.head.behind l.head.blocks l.head.records l.scan

abbrev pub decreases-loop-scan : goal.decreases-loop-scan
decreases-loop-scan l = length (first_map l.archive) - l.scan.at
