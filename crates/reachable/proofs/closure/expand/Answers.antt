-- `expand`: what waits is followed, until nothing waits. Each turn flags more or waits for less. Assumes nothing.
use borrow.Author.Rules.{rules}
use Rattle.reachable.proofs.Spreading.{turn-few}
use Rattle.reachable.proofs.Expanding.{expand-start, expand-address, expand-going, expand-within, expand-less, expand-turn, expand-done}
use Rattle.reachable.proofs.closure.expand.Goals as goal

pub loop-count-init : goal.loop-count-init
loop-count-init c = search expand-start

pub last-address-requires-clause-count_nonzero : goal.last-address-requires-clause-count_nonzero
last-address-requires-clause-count_nonzero c = (search rules, search turn-few)

pub raise_sides-requires-clause-address : goal.raise_sides-requires-clause-address
raise_sides-requires-clause-address c = search expand-address

pub follow-count-requires : goal.follow-count-requires
follow-count-requires c = let s = c.loop-count.invariant in
    let more = c.loop-count-test.true in
    let e = c.last-address.ensures in
    let r = c.raise_sides.ensures in
    record { going = expand-going s more e r c.requires.small; sides_within = expand-within s more e r }

pub loop-count-smaller : goal.loop-count-smaller
loop-count-smaller c = search expand-less

pub loop-count-preserved : goal.loop-count-preserved
loop-count-preserved c = search expand-turn

pub returns : goal.returns
returns c = search expand-done
