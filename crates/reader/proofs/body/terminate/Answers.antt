-- `terminate` meets its contract: each way out is a law of the body. Assumes nothing.
use Rattle.reader.proofs.Bodies.{terminate-wrong, terminate-right}
use Rattle.reader.proofs.body.terminate.Goals as goal

pub returns-then-long-ne5 : goal.returns-then-long-ne5
returns-then-long-ne5 c = search terminate-wrong

pub returns : goal.returns
returns c = search terminate-right
