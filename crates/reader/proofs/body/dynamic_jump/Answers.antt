-- `dynamic_jump` meets its contract: each way out is a law of the body. Assumes nothing.
use Rattle.reader.proofs.Bodies.{dynamic_jump-wrong, dynamic_jump-right}
use Rattle.reader.proofs.body.dynamic_jump.Goals as goal

pub returns-then-long-ne8 : goal.returns-then-long-ne8
returns-then-long-ne8 c = search dynamic_jump-wrong

pub returns : goal.returns
returns c = search dynamic_jump-right
