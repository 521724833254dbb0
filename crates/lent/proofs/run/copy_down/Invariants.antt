-- `copy_down`: after i turns the first i bytes, as they were at entry, are stored. Assumes nothing.
use Prim.Native.Nat.{◌≤◌}
use lib.ListN.{take, drop}
use Rattle.lent.specs.Bytes.{Stored}
use Rattle.lent.proofs.run.copy_down.Given as goal

abbrev pub invariant-loop-i : goal.invariant-loop-i
invariant-loop-i l = (l.i ≤ l.count) × Stored l.i l.initial.bytes l.to (take l.i (drop l.from l.initial.bytes)) l.bytes
