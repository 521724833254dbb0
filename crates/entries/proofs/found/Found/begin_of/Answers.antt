-- `begin_of`: the first path begins at 0, any other where the one before it ends. Assumes nothing.
use Rattle.entries.proofs.Paths.{ends-none, ends_before}
use Rattle.entries.proofs.found.Found.begin_of.Goals as goal

pub returns-then-row-eq0 : goal.returns-then-row-eq0
returns-then-row-eq0 c = search ends-none

pub returns : goal.returns
returns c = search ends_before
