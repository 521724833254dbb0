-- `aznifrem_follow` meets its contract: the answer as one number. Assumes nothing.
use Rattle.aznifrem.proofs.FollowExports.{follow-given}
use Rattle.aznifrem.proofs.trace.aznifrem_follow.Goals as goal

pub returns : goal.returns
returns c = search follow-given
