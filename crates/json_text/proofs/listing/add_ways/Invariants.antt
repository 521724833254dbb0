-- `add_ways`: what is put, and what is left, are all. Assumes nothing.
use lib.ListN.{length}
use Rattle.entries.specs.Links.{link_of}
use Rattle.layout.specs.Rows.{tag_of}
use Rattle.entries.specs.Rows.{left_of}
use Rattle.json_text.proofs.Walked.{Walking}
use Rattle.json_text.proofs.listing.add_ways.Given as goal

abbrev pub invariant-loop-next : goal.invariant-loop-next
invariant-loop-next l = Walking l.found.r.now l.found.q.now l.found.rows l.start (tag_of l.block) l.initial.output l.output (link_of l.next)

abbrev pub decreases-loop-next : goal.decreases-loop-next
decreases-loop-next l = length (left_of l.found.r.now l.found.rows l.start (link_of l.next))
