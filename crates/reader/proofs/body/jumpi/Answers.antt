-- `jumpi` meets its contract: each way out is a law of the body. Assumes nothing.
use Rattle.reader.proofs.Bodies.{jumpi-wrong, jumpi-right}
use Rattle.reader.proofs.body.jumpi.Goals as goal

pub returns-then-long-ne8 : goal.returns-then-long-ne8
returns-then-long-ne8 c = search jumpi-wrong

pub returns : goal.returns
returns c = search jumpi-right
