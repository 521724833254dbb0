-- `put_decimal`: the last i digits are stored. Assumes nothing.
use Rattle.text.proofs.Figures.{digits-start, digits-turn, digits-done}
use Rattle.text.proofs.decimal.put_decimal.Goals as goal

pub loop-i-init : goal.loop-i-init
loop-i-init c = search digits-start

pub loop-i-preserved : goal.loop-i-preserved
loop-i-preserved c = search digits-turn

pub returns : goal.returns
returns c = search digits-done
