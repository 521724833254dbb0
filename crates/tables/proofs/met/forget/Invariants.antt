-- `forget`: a head is 0 once a row of its bucket was passed. Assumes nothing.
use Rattle.tables.specs.Mets.{Forgetting}
use Rattle.tables.proofs.met.forget.Given as goal

abbrev pub invariant-loop-row : goal.invariant-loop-row
invariant-loop-row l = Forgetting l.buckets l.initial.t l.rows l.row l.t
