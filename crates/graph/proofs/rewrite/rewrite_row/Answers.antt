-- `rewrite_row`: the fields are stored, of what was read before. Assumes nothing.
use Rattle.graph.proofs.Rewriting.{rewrote-row}
use Rattle.graph.proofs.rewrite.rewrite_row.Goals as goal

pub returns : goal.returns
returns c = search rewrote-row
