-- `end_of` meets its contract: each way out is a law of the leading bytes. Assumes nothing.
use Rattle.reader.proofs.Leads.{sum-6, sum_body, next-whole, next-cut}
use Rattle.reader.proofs.lead.end_of.Goals as goal

pub overflow_add-result : goal.overflow_add-result
overflow_add-result c = search sum-6

pub overflow_add-result-in-Some : goal.overflow_add-result-in-Some
overflow_add-result-in-Some c = search sum_body

pub returns-in-Some : goal.returns-in-Some
returns-in-Some c = search next-whole

pub returns-in-None : goal.returns-in-None
returns-in-None c = search next-cut
