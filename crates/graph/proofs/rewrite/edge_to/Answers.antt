-- `edge_to`: by the kind of the row. Assumes nothing.
use Rattle.graph.proofs.Rewriting.{edge-dynamic, edge_other}
use Rattle.graph.proofs.rewrite.edge_to.Goals as goal

pub returns-then-is_dynamic_jump : goal.returns-then-is_dynamic_jump
returns-then-is_dynamic_jump c = search edge-dynamic

pub returns-else-is_dynamic_jump : goal.returns-else-is_dynamic_jump
returns-else-is_dynamic_jump c = search edge_other
