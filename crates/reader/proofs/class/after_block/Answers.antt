-- `after_block` meets its contract: each way out is a law of the order. Assumes nothing.
use Rattle.reader.proofs.Classing.{block-above, block-below, block_owed, block-met-above, block-met-below}
use Rattle.reader.proofs.class.after_block.Goals.{else-left-eq0-via-then-left-eq0+else-low-start-2, else-left-eq0-via-else-left-eq0}
use Rattle.reader.proofs.class.after_block.Goals as goal

pub returns-then-low-start : goal.returns-then-low-start
returns-then-low-start c = search block-above

pub returns-then-low-start-2 : goal.returns-then-low-start-2
returns-then-low-start-2 c = search block-met-above

pub returns-else-low-start : goal.returns-else-low-start
returns-else-low-start c = search block-below

pub returns-else-left-eq0 : goal.returns-else-left-eq0
returns-else-left-eq0 c =
    elim c.else-left-eq0.branch [
      | else-left-eq0-via-then-left-eq0+else-low-start-2 w ↦ search block-met-below
      | else-left-eq0-via-else-left-eq0 w ↦ search block_owed
    ]
