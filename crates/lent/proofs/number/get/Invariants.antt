-- `get`: the last bytes are read first. Assumes nothing.
use Rattle.lent.proofs.Holds.{Reading}
use Rattle.lent.proofs.number.get.Given as goal

abbrev pub invariant-loop-i : goal.invariant-loop-i
invariant-loop-i g l = Reading g.row.N l.bytes l.at l.i l.value
