use Rattle.parents.proofs.PrepareLoop.{walk_none, walk-row, walk_more}
use Rattle.parents.proofs.Ends.{prepared-all}
use Rattle.parents.proofs.prepare.Goals as goal

pub loop-place-init : goal.loop-place-init
loop-place-init c = search walk_none

pub prepare_row-many-requires : goal.prepare_row-many-requires
prepare_row-many-requires c = search walk-row

pub loop-place-preserved : goal.loop-place-preserved
loop-place-preserved c = search walk_more

pub returns : goal.returns
returns c = search prepared-all
