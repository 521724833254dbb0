use Rattle.follow.proofs.Indexing.{put-row-is}
use Rattle.follow.proofs.index.put_row.Goals as goal

pub returns : goal.returns
returns c = search put-row-is
