-- `run` meets its contract: the run, its bottom and its trimming. Assumes nothing.
use Rattle.exec.proofs.Owns.{owned-trims, owned}
use Rattle.exec.proofs.run.run.Goals as goal

pub trimmed-cells-requires : goal.trimmed-cells-requires
trimmed-cells-requires c = search owned-trims

pub returns : goal.returns
returns c = search owned
