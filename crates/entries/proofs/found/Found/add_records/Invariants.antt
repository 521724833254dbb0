-- `add_records`: the first rows are put. Assumes nothing.
use Rattle.entries.proofs.RecordsLoop.{Recording}
use Rattle.entries.proofs.found.Found.add_records.Given as goal

abbrev pub invariant-loop-row : goal.invariant-loop-row
invariant-loop-row l = Recording l.family l.choice l.self.r.now l.self.q.now l.self.rows l.initial.output l.output l.row
