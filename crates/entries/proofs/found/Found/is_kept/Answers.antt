-- `is_kept`: a block starts there, so it is kept if it is flagged. Assumes nothing.
use Rattle.entries.proofs.Blocks.{kept-flagged}
use Rattle.entries.proofs.found.Found.is_kept.Goals as goal

pub returns : goal.returns
returns c = search kept-flagged
