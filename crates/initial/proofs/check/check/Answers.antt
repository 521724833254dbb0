-- `check` meets its contract: the rows before a are checked and the starts of their blocks are listed, all else is as it was, and none is passed over that holds a block. The measure is the rows left. Assumes nothing.
use Rattle.initial.proofs.Checking.{check-none, check-starts, check-fits, check-less, check-more, check-past, check_done}
use Rattle.initial.proofs.check.check.Goals as goal

pub loop-start-init : goal.loop-start-init
loop-start-init c = search check-none

pub list_row-requires-clause-starts : goal.list_row-requires-clause-starts
list_row-requires-clause-starts c = check-starts c.requires.rows c.loop-start.invariant c.requires.apart c.loop-start-test.true c.check_row.ensures.checked c.check_row.ensures.starts c.in-Some.is

pub overflow_add-start : goal.overflow_add-start
overflow_add-start c = search check-fits

pub loop-start-smaller-in-Some : goal.loop-start-smaller-in-Some
loop-start-smaller-in-Some c = search check-less

pub loop-start-preserved-in-Some : goal.loop-start-preserved-in-Some
loop-start-preserved-in-Some c = search check-more

pub loop-start-preserved : goal.loop-start-preserved
loop-start-preserved c = search check-past

pub returns : goal.returns
returns c = search check_done
