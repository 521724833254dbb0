-- `count_entries`: what is counted, and what is left, are all. Assumes nothing.
use lib.ListN.{length}
use Rattle.entries.specs.Links.{link_of}
use Rattle.layout.specs.Rows.{tag_of}
use Rattle.entries.specs.Rows.{left_of}
use Rattle.entries.proofs.Listed.{Counting}
use Rattle.entries.proofs.found.Found.count_entries.Given as goal

abbrev pub invariant-loop-next : goal.invariant-loop-next
invariant-loop-next l = Counting l.self.r.now l.self.rows l.start (tag_of l.block) l.count (link_of l.next)

abbrev pub decreases-loop-next : goal.decreases-loop-next
decreases-loop-next l = length (left_of l.self.r.now l.self.rows l.start (link_of l.next))
