-- `begin_rows`: the heads so far are 0. Assumes nothing.
use Rattle.tables.specs.Mets.{Wiped}
use Rattle.tables.proofs.met.begin_rows.Given as goal

abbrev pub invariant-loop-bucket : goal.invariant-loop-bucket
invariant-loop-bucket l = Wiped l.buckets l.initial.t l.bucket l.t
