-- `sevens` meets its contract: those counted and those still to come are the whole run. The measure is what is left of the bytes. Assumes nothing.
use Rattle.reader.proofs.Onward.{count_cut, count-other, count-more, count_less}
use Rattle.reader.proofs.Leads.{sum_body}
use Rattle.reader.proofs.run.sevens.Goals as goal

pub overflow_add-to-in-Some : goal.overflow_add-to-in-Some
overflow_add-to-in-Some c = search sum_body

pub loop-lead-smaller : goal.loop-lead-smaller
loop-lead-smaller c = search count_less

pub loop-lead-preserved : goal.loop-lead-preserved
loop-lead-preserved c = search count-more

pub returns-then-not-is_way : goal.returns-then-not-is_way
returns-then-not-is_way c = search count-other

pub returns : goal.returns
returns c = search count_cut
