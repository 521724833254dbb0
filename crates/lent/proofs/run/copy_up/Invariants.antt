-- `copy_up`: with i bytes left to move, those past them, as they were at entry, are stored. Assumes nothing.
use Prim.Native.Nat.{◌+◌, ◌-◌, ◌≤◌}
use lib.ListN.{take, drop}
use Rattle.lent.specs.Bytes.{Stored}
use Rattle.lent.proofs.run.copy_up.Given as goal

abbrev pub invariant-loop-i : goal.invariant-loop-i
invariant-loop-i l = (l.i ≤ l.count) × Stored (l.count - l.i) l.initial.bytes (l.to + l.i) (take (l.count - l.i) (drop (l.from + l.i) l.initial.bytes)) l.bytes
