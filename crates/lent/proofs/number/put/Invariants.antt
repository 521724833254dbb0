-- `put`: the lowest bytes are stored first. Assumes nothing.
use Rattle.lent.proofs.Stored.{Writing}
use Rattle.lent.proofs.number.put.Given as goal

abbrev pub invariant-loop-i : goal.invariant-loop-i
invariant-loop-i g l = Writing l.initial.bytes l.at l.value l.i l.left l.bytes
