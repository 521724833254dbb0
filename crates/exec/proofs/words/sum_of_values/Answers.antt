-- `sum_of_values` meets its contract: each way out is a law of ADD. Assumes nothing.
use Rattle.exec.proofs.Sums.{sum_fits, sum_past}
use Rattle.exec.proofs.words.sum_of_values.Goals as goal

pub returns-in-Some : goal.returns-in-Some
returns-in-Some c = search (sum_fits, c.in-Some.ensures)

pub returns-in-None : goal.returns-in-None
returns-in-None c = search (sum_past, c.in-None.ensures)
