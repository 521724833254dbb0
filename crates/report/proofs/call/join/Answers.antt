-- `join` meets its contract. Assumes nothing.
use Rattle.report.proofs.Merged.{join-short, join-told}
use Rattle.report.proofs.call.join.Goals as goal

pub returns-then-other-lt-BYTES : goal.returns-then-other-lt-BYTES
returns-then-other-lt-BYTES c = search join-short

pub returns : goal.returns
returns c = search join-told
