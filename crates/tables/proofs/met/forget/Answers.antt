-- `forget`: a head is 0 once a row of its bucket was passed. Assumes nothing.
use Rattle.tables.proofs.Turns.{forgets-none, forgets-more, forgets-all}
use Rattle.tables.proofs.met.forget.Goals as goal

pub loop-row-init : goal.loop-row-init
loop-row-init c = search forgets-none

pub loop-row-preserved : goal.loop-row-preserved
loop-row-preserved c = search forgets-more

pub returns : goal.returns
returns c = search forgets-all
