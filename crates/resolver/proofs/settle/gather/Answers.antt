-- `gather`: the records are gone through until the batch is full or none is left. Assumes nothing.
use Rattle.resolver.proofs.GatherLoop.{gather-start, gather-skip, gather-turn, gather-out, gather-full}
use Rattle.resolver.proofs.settle.gather.Goals as goal
use Rattle.resolver.proofs.settle.gather.Goals.{then-to-ne-NOWHERE, else-to-ne-NOWHERE}

pub loop-i-init : goal.loop-i-init
loop-i-init c = search gather-start

pub loop-i-preserved : goal.loop-i-preserved
loop-i-preserved c =
    let g = c.loop-i.invariant in
    elim c.if-to-ne-NOWHERE.branch [
      | then-to-ne-NOWHERE w ↦ rw (w.many-is, w.batch-is) (gather-turn g c.loop-i-test.true c.get16-to.ensures c.if-many-eq-BATCH.false w.if-to-ne-NOWHERE.true)
      | else-to-ne-NOWHERE w ↦ rw (w.many-is, w.batch-is) (gather-skip g c.loop-i-test.true c.get16-to.ensures w.if-to-ne-NOWHERE.false)
    ]

pub returns-then-many-eq-BATCH : goal.returns-then-many-eq-BATCH
returns-then-many-eq-BATCH c = search gather-full

pub returns : goal.returns
returns c = search gather-out
