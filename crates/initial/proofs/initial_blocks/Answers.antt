-- `initial_blocks` meets its contract: the cutting and the checks, joined. Assumes nothing.
use Rattle.initial.proofs.Joining.{cut_apart, joined}
use Rattle.initial.proofs.initial_blocks.Goals as goal

pub check-requires-clause-apart : goal.check-requires-clause-apart
check-requires-clause-apart c = search cut_apart

pub returns : goal.returns
returns c = search joined
