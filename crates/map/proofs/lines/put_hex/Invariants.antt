-- `put_hex`: after i turns the digits of the first i bytes are stored. Assumes nothing.
use Prim.Native.Nat.{◌*◌, ◌≤◌}
use lib.ListN.{take, drop}
use Rattle.spec.specs.Lists.{gather}
use Rattle.spec.specs.Program.{hex}
use Rattle.lent.specs.Bytes.{Stored}
use Rattle.map.proofs.lines.put_hex.Given as goal

abbrev pub invariant-loop-i : goal.invariant-loop-i
invariant-loop-i l = (l.i ≤ l.count) × Stored (2 * l.i) l.initial.out l.at (gather hex (take l.i (drop l.from l.raw))) l.out
