-- `jumping` meets its contract, with a pushed destination and without. Assumes nothing.
use Rattle.initial.proofs.Jumping.{jumping-static, jumping-dynamic}
use Rattle.initial.proofs.jump.jumping.Goals as goal

pub returns-in-Some : goal.returns-in-Some
returns-in-Some c = search jumping-static

pub returns-in-None : goal.returns-in-None
returns-in-None c = search jumping-dynamic
