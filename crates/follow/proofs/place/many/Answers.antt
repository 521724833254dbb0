use Rattle.std.proofs.Common.{inl}
use Rattle.std.proofs.lemmas.Iterator.Consumers.{count_from_yields_List, YieldsList-from_first}
use Rattle.follow.specs.Places.{distinct_left}
use Rattle.follow.proofs.Placing.{choose-can, choose-fits, choose-all}
use Rattle.follow.proofs.place.many.Goals as goal

pub count-requires-clause-can : goal.count-requires-clause-can
count-requires-clause-can c = choose-can c.new.ensures c.requires

pub count-requires-clause-fits : goal.count-requires-clause-fits
count-requires-clause-fits c = inl (search choose-fits)

pub returns : goal.returns
returns c = count_from_yields_List _ _ c.count.ensures.ran (YieldsList-from_first (λ x. x) distinct_left _ (choose-all c.new.ensures))
