-- `branching` meets its contract, with a pushed destination and without. Assumes nothing.
use Rattle.initial.proofs.Jumping.{branching-static, branching-dynamic}
use Rattle.initial.proofs.jump.branching.Goals as goal

pub returns-in-Some : goal.returns-in-Some
returns-in-Some c = search branching-static

pub returns-in-None : goal.returns-in-None
returns-in-None c = search branching-dynamic
