-- `trade` meets its contract: a row that gives none, or one. Assumes nothing.
use Rattle.exec.proofs.Acts.{trade-none, trade-one}
use Rattle.exec.proofs.trade.trade.Goals as goal

pub returns-then-row-eq0 : goal.returns-then-row-eq0
returns-then-row-eq0 c = search trade-none

pub returns : goal.returns
returns c = search trade-one
