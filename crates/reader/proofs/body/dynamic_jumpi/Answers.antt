-- `dynamic_jumpi` meets its contract: each way out is a law of the body. Assumes nothing.
use Rattle.reader.proofs.Bodies.{dynamic_jumpi-wrong, dynamic_jumpi-right}
use Rattle.reader.proofs.body.dynamic_jumpi.Goals as goal

pub returns-then-long-ne10 : goal.returns-then-long-ne10
returns-then-long-ne10 c = search dynamic_jumpi-wrong

pub returns : goal.returns
returns c = search dynamic_jumpi-right
