-- `found`: what is left of the chain is all that can be found. Assumes nothing.
use Rattle.tables.proofs.Orders.{walk-first, walk-none, walk-hit, walk-less, walk-more}
use Rattle.tables.proofs.chain.found.Goals as goal

pub loop-cur-init : goal.loop-cur-init
loop-cur-init g c = walk-first c.requires.keyed c.newest-cur.ensures

pub returns-then-fits : goal.returns-then-fits
returns-then-fits g c =
    walk-hit c.requires.keyed c.loop-cur.invariant c.in-Some.is c.fits.ensures c.if-fits.true

pub loop-cur-smaller : goal.loop-cur-smaller
loop-cur-smaller g c =
    walk-less c.requires.keyed c.loop-cur.invariant c.in-Some.is c.link-cur.ensures

pub loop-cur-preserved : goal.loop-cur-preserved
loop-cur-preserved g c =
    walk-more c.requires.keyed c.loop-cur.invariant c.in-Some.is c.link-cur.ensures c.fits.ensures c.if-fits.false

pub returns : goal.returns
returns g c = walk-none c.requires.keyed c.loop-cur.invariant c.in_default.is
