-- `judge` meets its contract: what is copied so far and what is salvaged of the rest is the whole. The measure is what is left of the bytes. Assumes nothing.
use Rattle.salvage.proofs.Maps.{judged-end, judged-bad, bad-fits, at-fits, judges-less, judges-on}
use Rattle.salvage.proofs.judge.judge.Goals as goal

pub returns : goal.returns
returns c = search judged-end

pub overflow_add-at : goal.overflow_add-at
overflow_add-at c = search at-fits

pub loop-at-smaller : goal.loop-at-smaller
loop-at-smaller c = search judges-less

pub loop-at-preserved : goal.loop-at-preserved
loop-at-preserved c = search judges-on

pub overflow_add-result : goal.overflow_add-result
overflow_add-result c = search bad-fits

pub returns-in-Err : goal.returns-in-Err
returns-in-Err c = search judged-bad
