use Rattle.std.proofs.Common.{◌-◌, length}
use Rattle.follow.proofs.Going.{BlockFrom}
use Rattle.follow.proofs.block.block_from.Given as goal

abbrev pub invariant-loop-entry : goal.invariant-loop-entry
invariant-loop-entry l = BlockFrom l.map l.from l.at

abbrev pub decreases-loop-entry : goal.decreases-loop-entry
decreases-loop-entry l = length l.map - l.at
