-- `wipe_part`: the part is zeros. Assumes nothing.
use Rattle.lent.proofs.Runs.{stored-zeros}
use Rattle.lent.proofs.run.wipe_part.Goals as goal

pub returns : goal.returns
returns c = search (stored-zeros, c.fill.ensures.after)
