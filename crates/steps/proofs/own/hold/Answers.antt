-- `hold`: no link can tell where, there is no room, or the four writes. Assumes nothing.
use Rattle.steps.proofs.Helds.{hold-unlinked, hold-short, hold-done}
use Rattle.steps.proofs.own.hold.Goals as goal

pub returns-then-filled-ge-LAST_LINK : goal.returns-then-filled-ge-LAST_LINK
returns-then-filled-ge-LAST_LINK c = search hold-unlinked

pub returns-then-plan-head : goal.returns-then-plan-head
returns-then-plan-head c = search hold-short

pub returns : goal.returns
returns c = hold-done _ c.links_at-links.ensures c.get32-filled.ensures c.if-filled-ge-LAST_LINK.false c.if-plan-head.false c.put16.ensures c.copy_within.ensures c.put16-2.ensures c.put32.ensures
