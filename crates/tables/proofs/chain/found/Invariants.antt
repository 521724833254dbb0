-- `found`: what is left of the chain is all that can be found. Assumes nothing.
use Rattle.tables.specs.Chains.{Left, link_of}
use Rattle.tables.proofs.chain.found.Given as goal

abbrev pub invariant-loop-cur : goal.invariant-loop-cur
invariant-loop-cur g l = let c = g.C.Chain in Left (c.key l.chain) (c.hit l.chain) (c.rows l.chain) (c.own l.chain) (link_of l.cur)

abbrev pub decreases-loop-cur : goal.decreases-loop-cur
decreases-loop-cur g l = link_of l.cur
