-- `sum_of_three` meets its contract. Assumes nothing.
use Rattle.report.proofs.Sums.{three-is, three-large}
use Rattle.report.proofs.number.sum_of_three.Goals as goal

pub returns-in_err-checked_add : goal.returns-in_err-checked_add
returns-in_err-checked_add c = rw c.from_residual.ensures (three-large c.args.first c.args.second c.args.third (c.in_err-checked_add.ensures {u = tt}))

pub returns : goal.returns
returns c = three-is c.args.first c.args.second c.args.third (c.in_ok-checked_add.ensures {u = tt}) c.checked_add-2.ensures
