-- `aznifrem_read` meets its contract: the answer as one number. Assumes nothing.
use Rattle.aznifrem.proofs.ReadExports.{read-given}
use Rattle.aznifrem.proofs.aznifrem_read.Goals as goal

pub returns : goal.returns
returns c = search read-given
