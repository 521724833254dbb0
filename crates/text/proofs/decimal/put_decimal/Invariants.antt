-- `put_decimal`: the last i digits are stored. Assumes nothing.
use Rattle.text.proofs.Figures.{Storing}
use Rattle.text.proofs.decimal.put_decimal.Given as goal

abbrev pub invariant-loop-i : goal.invariant-loop-i
invariant-loop-i l = Storing l.initial.bytes l.at l.value l.count l.bytes l.i l.left
