-- `copy`: after i turns the first i bytes of the source are stored. Assumes nothing.
use Prim.Native.Nat.{◌≤◌}
use lib.ListN.{take, drop}
use Rattle.lent.specs.Bytes.{Stored}
use Rattle.lent.proofs.run.copy.Given as goal

abbrev pub invariant-loop-i : goal.invariant-loop-i
invariant-loop-i l = (l.i ≤ l.count) × Stored l.i l.initial.dst l.to (take l.i (drop l.from l.src)) l.dst
