-- `aznifrem_inspect_from` meets its contract: the answer as one number. Assumes nothing.
use Rattle.aznifrem.proofs.InspectExports.{from-given}
use Rattle.aznifrem.proofs.second.aznifrem_inspect_from.Goals as goal

pub returns : goal.returns
returns c = search from-given
