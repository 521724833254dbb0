-- `add_span`: an item's beginning, and two numbers. Assumes nothing.
use Rattle.entries.proofs.Heads.{span-put}
use Rattle.entries.proofs.found.Found.add_span.Goals as goal

pub returns : goal.returns
returns c = search span-put
