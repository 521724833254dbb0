-- `same_state` meets its contract. Assumes nothing.
use Rattle.state.proofs.Comparing.{Comparing}
use Rattle.state.proofs.same.same_state.Given as goal

abbrev pub invariant-loop-i : goal.invariant-loop-i
invariant-loop-i l = Comparing l.bytes l.one l.other l.cells l.i
