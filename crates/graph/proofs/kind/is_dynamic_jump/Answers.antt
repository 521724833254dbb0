-- `is_dynamic_jump`: by the row's first byte. Assumes nothing.
use Rattle.graph.proofs.Tagged.{kind-none, kind-some}
use Rattle.graph.proofs.kind.is_dynamic_jump.Goals as goal

pub returns-in-Some : goal.returns-in-Some
returns-in-Some c = search kind-some

pub returns-in-None : goal.returns-in-None
returns-in-None c = search kind-none
