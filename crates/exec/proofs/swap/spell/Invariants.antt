-- `spell` meets its contract: the cells passed so far are spelled out. Assumes nothing.
use Prim.Native.Nat.{◌≤◌}
use Rattle.state.specs.Cells.{befores, Wrote}
use Rattle.exec.proofs.swap.spell.Given as goal

abbrev pub invariant-loop-i : goal.invariant-loop-i
invariant-loop-i l = (l.i ≤ l.count) × Wrote l.i l.initial.w l.at (befores l.base l.i) l.w
