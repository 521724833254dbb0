-- `aznifrem_salvage` meets its contract: the answer as one number. Assumes nothing.
use Rattle.aznifrem.proofs.SalvageExports.{salvage-given}
use Rattle.aznifrem.proofs.archive.aznifrem_salvage.Goals as goal

pub returns : goal.returns
returns c = search salvage-given
