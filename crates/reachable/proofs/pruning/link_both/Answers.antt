-- `link_both`: a wiped W, linked by both keys. Assumes nothing.
use Rattle.reachable.proofs.Linked.{links-places, links-witnesses, linked-both}
use Rattle.reachable.proofs.pruning.link_both.Goals as goal

pub link-requires : goal.link-requires
link-requires c = search links-places

pub link-requires-2 : goal.link-requires-2
link-requires-2 c = search links-witnesses

pub returns : goal.returns
returns c = search linked-both
