-- `head_of` meets its contract: each way out is a law of the first entry. Assumes nothing.
use Rattle.reader.proofs.Resting.{head-right, head-other, head-fault}
use Rattle.reader.proofs.scan.head_of.Goals as goal

pub returns-in-Head : goal.returns-in-Head
returns-in-Head c = search head-right

pub returns-in_default : goal.returns-in_default
returns-in_default c = search head-fault

pub returns-in_default-entry : goal.returns-in_default-entry
returns-in_default-entry c = search head-other
