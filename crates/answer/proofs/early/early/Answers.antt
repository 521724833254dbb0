-- `early`: four tests, in the documents' order. Assumes nothing.
use Rattle.answer.proofs.Mapping.{first-long, first-over, first-moded, first-scant, first-none}
use Rattle.answer.proofs.early.early.Goals as goal

pub returns-then-size-gt-LONGEST : goal.returns-then-size-gt-LONGEST
returns-then-size-gt-LONGEST c = search first-long

pub returns-then-limit-gt500000 : goal.returns-then-limit-gt500000
returns-then-limit-gt500000 c = search first-over

pub returns-in-Err : goal.returns-in-Err
returns-in-Err c = first-moded _ _ _ _ c.if-size-gt-LONGEST.false c.if-limit-gt500000.false c.in-Err.ensures

pub returns-then-lent-need_of : goal.returns-then-lent-need_of
returns-then-lent-need_of c = first-scant _ _ _ _ c.if-size-gt-LONGEST.false c.if-limit-gt500000.false _ c.in-Ok.ensures c.need_of.ensures c.if-lent-need_of.true

pub returns : goal.returns
returns c = first-none _ _ _ _ c.if-size-gt-LONGEST.false c.if-limit-gt500000.false _ c.in-Ok.ensures c.need_of.ensures c.if-lent-need_of.false
