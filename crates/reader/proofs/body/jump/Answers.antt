-- `jump` meets its contract: each way out is a law of the body. Assumes nothing.
use Rattle.reader.proofs.Bodies.{jump-wrong, jump-right}
use Rattle.reader.proofs.body.jump.Goals as goal

pub returns-then-long-ne6 : goal.returns-then-long-ne6
returns-then-long-ne6 c = search jump-wrong

pub returns : goal.returns
returns c = search jump-right
