-- `aznifrem_inspect` meets its contract: the answer as one number. Assumes nothing.
use Rattle.aznifrem.proofs.InspectExports.{inspect-given}
use Rattle.aznifrem.proofs.second.aznifrem_inspect.Goals as goal

pub returns : goal.returns
returns c = search inspect-given
