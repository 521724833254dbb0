-- `sum_cells`: both sums so far, with the symbols left, are the whole. Assumes nothing.
use Rattle.std.proofs.Common.{◌≡◌, ◌+◌, ◌-◌, ◌*◌, ◌≤◌}
use Rattle.state.specs.Cells.{syms_at}
use Rattle.tables.specs.Sums.{sym_sums}
use Rattle.tables.proofs.row.sum_cells.Given as goal

abbrev pub invariant-loop-i : goal.invariant-loop-i
invariant-loop-i l = (l.i ≤ l.cells) × (sym_sums 37 l.sum (syms_at l.s (9 * (l.from + l.i)) (l.cells - l.i)) ≡ sym_sums 37 l.initial.sum (syms_at l.s (9 * l.from) l.cells))
    × (sym_sums 3 l.mark (syms_at l.s (9 * (l.from + l.i)) (l.cells - l.i)) ≡ sym_sums 3 l.initial.mark (syms_at l.s (9 * l.from) l.cells))
