-- `closes` meets its contract: each case of the decision is a law. Assumes nothing.
use Rattle.initial.proofs.Jumping.{at_jumpdest, at-jumpi, at-jump, at-ends, at-unknown, at_other}
use Rattle.initial.proofs.turn.closes.Goals as goal

pub returns-in-Jumpdest : goal.returns-in-Jumpdest
returns-in-Jumpdest c = search at_jumpdest

pub returns-in-Jumpi : goal.returns-in-Jumpi
returns-in-Jumpi c = search at-jumpi

pub returns-in-Jump : goal.returns-in-Jump
returns-in-Jump c = search at-jump

pub returns-in-Ends : goal.returns-in-Ends
returns-in-Ends c = search at-ends

pub returns-in-Unknown : goal.returns-in-Unknown
returns-in-Unknown c = search at-unknown

pub returns-in-Other : goal.returns-in-Other
returns-in-Other c = search at_other
