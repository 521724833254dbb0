-- `follow_from`: what waits is followed, until nothing waits, as `expand` does. Assumes nothing.
use borrow.Author.Rules.{rules}
use Rattle.reachable.proofs.Pruned.{prune-start, prune-fits, prune-going, prune-turn, prune-done}
use Rattle.reachable.proofs.Spreading.{turn-few, turn-less}
use Rattle.reachable.proofs.pruning.follow_from.Goals as goal

pub loop-count-init : goal.loop-count-init
loop-count-init c = search prune-start

pub overflow_add-flags : goal.overflow_add-flags
overflow_add-flags c = search prune-fits

pub last-address-requires-clause-count_nonzero : goal.last-address-requires-clause-count_nonzero
last-address-requires-clause-count_nonzero c = (search rules, search turn-few)

pub follow_all-count-requires : goal.follow_all-count-requires
follow_all-count-requires c = search prune-going

pub loop-count-smaller : goal.loop-count-smaller
loop-count-smaller c = search turn-less

pub loop-count-preserved : goal.loop-count-preserved
loop-count-preserved c = search prune-turn

pub returns : goal.returns
returns c = search prune-done
