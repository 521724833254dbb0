-- `map` meets its contract. Assumes nothing.
use Rattle.state.specs.Cells.{stack_at}
use Rattle.state.specs.Homes.{bytes_in}
use Rattle.state.proofs.Composing.{Mapping}
use Rattle.state.proofs.compose.map.Given as goal

abbrev pub invariant-loop-i : goal.invariant-loop-i
invariant-loop-i l = Mapping l.initial.s l.child l.upper l.to (stack_at (bytes_in l.home l.initial.s) l.parent l.lower) l.i l.s
