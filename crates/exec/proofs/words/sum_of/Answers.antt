-- `sum_of` meets its contract: each way out is a law of ADD. Assumes nothing.
use Rattle.exec.proofs.Sums.{sum_top, sum-next, sum_both}
use Rattle.exec.proofs.words.sum_of.Goals as goal

pub returns-in_default : goal.returns-in_default
returns-in_default c = search sum_top

pub returns-in_default-known_value : goal.returns-in_default-known_value
returns-in_default-known_value c = search sum-next

pub returns : goal.returns
returns c = search sum_both
