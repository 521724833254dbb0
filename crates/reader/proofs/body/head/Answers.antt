-- `head` meets its contract: each way out is a law of the body. Assumes nothing.
use Rattle.reader.proofs.Bodies.{head-wrong, head-right}
use Rattle.reader.proofs.body.head.Goals as goal

pub returns-then-long-ne12 : goal.returns-then-long-ne12
returns-then-long-ne12 c = search head-wrong

pub returns : goal.returns
returns c = search head-right
