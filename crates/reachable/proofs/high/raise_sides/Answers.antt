-- `raise_sides`: of the true side, and then of the false side. Assumes nothing.
use Rattle.reachable.proofs.Pairs.{to-within, other-within}
use Rattle.reachable.proofs.Raising.{raised-both}
use Rattle.reachable.proofs.high.raise_sides.Goals as goal

pub raise_side-requires-clause-side_within : goal.raise_side-requires-clause-side_within
raise_side-requires-clause-side_within c = search to-within

pub raise_side-requires-2-clause-side_within : goal.raise_side-requires-2-clause-side_within
raise_side-requires-2-clause-side_within c = search other-within

pub returns : goal.returns
returns c = search raised-both
