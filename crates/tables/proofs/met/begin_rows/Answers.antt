-- `begin_rows`: the heads so far are 0. Assumes nothing.
use Rattle.tables.proofs.Turns.{wiped-more, wiped-all}
use Rattle.tables.proofs.met.begin_rows.Goals as goal

pub loop-bucket-preserved : goal.loop-bucket-preserved
loop-bucket-preserved c = search wiped-more

pub returns : goal.returns
returns c = search wiped-all
