-- `put_refused`: a number of one digit, or of two. Assumes nothing.
use Rattle.map.proofs.Refusing.{refusal-one, refusal-two}
use Rattle.map.proofs.lines.put_refused.Goals as goal

pub returns-then-number-lt10 : goal.returns-then-number-lt10
returns-then-number-lt10 c = search refusal-one

pub returns : goal.returns
returns c = search refusal-two
