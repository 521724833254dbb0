-- `path_of` meets its contract: each way out is a law of the body. Assumes nothing.
use Rattle.reader.proofs.Bodies.{path-short, path-wrong, path-right}
use Rattle.reader.proofs.body.path_of.Goals as goal

pub returns-then-long-place : goal.returns-then-long-place
returns-then-long-place c = search path-short

pub returns-then-long-place-2 : goal.returns-then-long-place-2
returns-then-long-place-2 c = search path-wrong

pub returns : goal.returns
returns c = search path-right
