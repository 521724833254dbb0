-- `end_before`: the end of the record before, or 0. Assumes nothing.
use Rattle.tables.proofs.Lookup.{end_none, end-some}
use Rattle.tables.proofs.record.end_before.Goals as goal

pub returns-then-row-eq0 : goal.returns-then-row-eq0
returns-then-row-eq0 c = search end_none

pub returns : goal.returns
returns c = search end-some
