-- `at_unknown` meets its contract, in its three cases. Assumes nothing.
use Rattle.initial.proofs.Jumping.{unknown-first, unknown-own, unknown-past}
use Rattle.initial.proofs.turn.at_unknown.Goals as goal

pub returns-then-start-eq0 : goal.returns-then-start-eq0
returns-then-start-eq0 c = search unknown-first

pub returns-then-pc-start : goal.returns-then-pc-start
returns-then-pc-start c = search unknown-own

pub returns : goal.returns
returns c = search unknown-past
