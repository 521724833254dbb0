-- `level` and `parent`: a level tries its parents, and a parent may open a level with less weight left. Assumes nothing.
use Rattle.std.proofs.Common.{◌+◌, ◌*◌}
use Rattle.layout.specs.Buffers.{held}
use Rattle.steps.specs.Goings.{under_way}
use Rattle.steps.proofs.Cursors.{fuel}
use Rattle.enter.specs.Lent.{StillLent}
use Rattle.levels.proofs.LevelLoop.{Going}
use Rattle.levels.proofs.levels.+level_parent.Given as goal

abbrev pub decreases-level : goal.decreases-level
decreases-level l = 2 * l.level.left + 1

abbrev pub decreases-parent : goal.decreases-parent
decreases-parent l = 2 * l.outer.left

abbrev pub invariant-level-loop-at : goal.invariant-level-loop-at
invariant-level-loop-at l = record {
  lent : StillLent l.initial.buffers l.buffers;
  going : Going l.code l.plan l.start l.level (held l.initial.buffers) (under_way l.initial.run) l.last l.top (held l.buffers) (under_way l.run) l.at;
}

abbrev pub decreases-level-loop-at : goal.decreases-level-loop-at
decreases-level-loop-at l = fuel l.at
