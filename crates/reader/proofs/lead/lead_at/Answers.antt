-- `lead_at` meets its contract: each way out is a law of the leading bytes. Assumes nothing.
use Rattle.reader.proofs.Leads.{lead-past, lead-few, lead-cut, lead-whole}
use Rattle.reader.proofs.lead.lead_at.Goals as goal

pub returns-then-len-at : goal.returns-then-len-at
returns-then-len-at c = search lead-past

pub returns-then-left-lt6 : goal.returns-then-left-lt6
returns-then-left-lt6 c = search lead-few

pub returns-then-left-length : goal.returns-then-left-length
returns-then-left-length c = search lead-cut

pub returns : goal.returns
returns c = search lead-whole
