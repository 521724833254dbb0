-- `link`: the rows from i on are linked. Assumes nothing.
use Rattle.reachable.specs.Keys.{offset_of}
use Rattle.reachable.proofs.Chaining.{Linking}
use Rattle.reachable.proofs.link.link.Given as goal

abbrev pub invariant-loop-row : goal.invariant-loop-row
invariant-loop-row l = Linking l.size l.rows (offset_of l.by) l.initial.w l.initial.r l.w l.r l.row
