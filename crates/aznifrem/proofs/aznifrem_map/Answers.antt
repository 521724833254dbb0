-- `aznifrem_map` gives the number, or the count. Assumes nothing.
use Rattle.aznifrem.proofs.Backs.{six-back}
use Rattle.aznifrem.proofs.Exports.{exported-given}
use Rattle.aznifrem.proofs.aznifrem_map.Goals as goal

pub returns : goal.returns
returns c = search (six-back, exported-given)
