-- `and_of` meets its contract: each way out is a law of AND. Assumes nothing.
use Rattle.exec.proofs.Sums.{and-top, and-next, and_none}
use Rattle.exec.proofs.words.and_of.Goals as goal

pub returns-then-is_mask : goal.returns-then-is_mask
returns-then-is_mask c = search and-top

pub returns-then-is_mask-2 : goal.returns-then-is_mask-2
returns-then-is_mask-2 c = search and-next

pub returns : goal.returns
returns c = search and_none
