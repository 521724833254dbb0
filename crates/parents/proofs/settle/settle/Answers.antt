use Rattle.parents.proofs.Leaves.{settle-none, settle-static, settle-nowhere, settle-placed}
use Rattle.parents.proofs.settle.settle.Goals as goal

pub returns-in_default : goal.returns-in_default
returns-in_default c = search settle-none

pub returns-then-not-is_dynamic : goal.returns-then-not-is_dynamic
returns-then-not-is_dynamic c = search settle-static

pub returns-in-None : goal.returns-in-None
returns-in-None c = search settle-nowhere

pub returns-in-Some-goes : goal.returns-in-Some-goes
returns-in-Some-goes c = search settle-placed
