-- `follow_rows`: the rows of the key below the next one are followed; that rises. Assumes nothing.
use Rattle.reachable.specs.Keys.{offset_of}
use Rattle.reachable.specs.Links.{link_of}
use Rattle.reachable.proofs.Leading.{Walking, steps}
use Rattle.reachable.proofs.pruning.follow_rows.Given as goal

abbrev pub invariant-loop-next : goal.invariant-loop-next
invariant-loop-next l = Walking l.size l.rows (offset_of l.by) l.key l.r l.initial.w l.count l.w l.more (link_of l.next)

abbrev pub decreases-loop-next : goal.decreases-loop-next
decreases-loop-next l = steps l.rows (link_of l.next)
