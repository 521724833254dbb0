-- `put_edge`: four fields are stored. Assumes nothing.
use Rattle.graph.proofs.Rewriting.{put-edge}
use Rattle.graph.proofs.rewrite.put_edge.Goals as goal

pub returns : goal.returns
returns c = search put-edge
