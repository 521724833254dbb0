-- `cut` meets its contract: what is written and what is still to be cut are the whole. The measure is what is left of the code. Assumes nothing.
use Rattle.initial.proofs.Cutting.{cut-empty, cut-starts, cut-last, cut-ready, cut_stands, cut-stops, cut-less, cut-more}
use Rattle.initial.proofs.cut.cut.Goals as goal

pub returns-then-size-eq0 : goal.returns-then-size-eq0
returns-then-size-eq0 c = search cut-empty

pub loop-pc-init : goal.loop-pc-init
loop-pc-init c = search cut-starts

pub returns : goal.returns
returns c = search cut-last

pub turn-walking-requires : goal.turn-walking-requires
turn-walking-requires c = record { ready = search cut-ready; stands = search cut_stands }

pub returns-in-Ended : goal.returns-in-Ended
returns-in-Ended c = search cut-stops

pub loop-pc-smaller : goal.loop-pc-smaller
loop-pc-smaller c = search cut-less

pub loop-pc-preserved : goal.loop-pc-preserved
loop-pc-preserved c = search cut-more
