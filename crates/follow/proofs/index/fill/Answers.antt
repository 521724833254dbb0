use Rattle.std.proofs.Common.{rules}
use Rattle.follow.proofs.Passing.{ready-walks}
use Rattle.follow.proofs.index.fill.Goals as goal

pub last-requires-clause-can : goal.last-requires-clause-can
last-requires-clause-can c = search (rules, ready-walks)
