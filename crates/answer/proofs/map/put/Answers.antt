-- `put`: the shortage, or what is written. Assumes nothing.
use Rattle.answer.proofs.Told.{put-done}
use Rattle.answer.proofs.map.put.Goals as goal

pub returns : goal.returns
returns c = put-done _ _ _ _ _ _ c.in_ok-finding.was c.write_entries-written.ensures c.ok_or.ensures.value
