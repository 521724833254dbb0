-- `joined` meets its contract. Assumes nothing.
use Rattle.report.proofs.Sums.{joined-sum, joined-longest}
use Rattle.report.proofs.number.joined.Goals as goal

pub returns-then-place-eq-LONGEST : goal.returns-then-place-eq-LONGEST
returns-then-place-eq-LONGEST c = search joined-longest

pub returns-else-place-eq-LONGEST : goal.returns-else-place-eq-LONGEST
returns-else-place-eq-LONGEST c = joined-sum _ _ _ c.if-place-eq-LONGEST.false c.checked_add.ensures
