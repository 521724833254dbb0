use Rattle.std.proofs.Common.{ap, ◌∙◌, Some}
use Rattle.follow.proofs.Going.{seven-to, seven-less, seven-on, seven-no, seven-over}
use Rattle.follow.proofs.destination.seven_from.Goals as goal

pub returns-in_err-to : goal.returns-in_err-to
returns-in_err-to c = rw c.from_residual.ensures (let none = c.in_err-to.was in search seven-no)

pub returns-in-Some-2 : goal.returns-in-Some-2
returns-in-Some-2 c = let is = c.in_ok-to.was ∙ ap Some c.in-Some-2.is in search seven-to

pub loop-entry-smaller : goal.loop-entry-smaller
loop-entry-smaller c = search seven-less

pub loop-entry-preserved : goal.loop-entry-preserved
loop-entry-preserved c = let is = c.in_ok-to.was ∙ ap Some c.in-None.is in search seven-on

pub returns : goal.returns
returns c = search seven-over
