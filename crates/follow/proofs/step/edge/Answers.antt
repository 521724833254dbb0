use Rattle.follow.proofs.Moving.{edge-one, edge-sum, edge-takes, edge-nowhere, edge-not}
use Rattle.follow.proofs.step.edge.Goals as goal

pub returns-in_err-place : goal.returns-in_err-place
returns-in_err-place c = rw c.from_residual.ensures (let none = c.in_err-place.was in search edge-not)

pub returns-in_err-entered : goal.returns-in_err-entered
returns-in_err-entered c = rw c.from_residual-in_err-entered.ensures (let some = c.in_ok-place.was in let none = c.in_err-entered.was in search edge-nowhere)

pub overflow_add-result : goal.overflow_add-result
overflow_add-result c = edge-one c.requires.finds.ready c.requires.stood

pub overflow_add-result-2 : goal.overflow_add-result-2
overflow_add-result-2 c = let some = c.in_ok-place.was in let ready = c.requires.finds.ready in search edge-sum

pub returns : goal.returns
returns c = let some = c.in_ok-place.was in let to = c.in_ok-entered.was in search edge-takes
