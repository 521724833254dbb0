use Rattle.std.proofs.Common.{inl, rules, tests, eqb}
use Rattle.std.proofs.lemmas.Iterator.Consumers.{YieldsList-from_first}
use Rattle.std.proofs.lemmas.Iterator.Search.{position_from_yields_List}
use Rattle.follow.specs.Places.{distinct_left}
use Rattle.follow.proofs.Placing.{choose-can, choose-fits, choose-all, place-position}
use Rattle.follow.proofs.place.seek.Goals as goal

pub position-requires-clause-can : goal.position-requires-clause-can
position-requires-clause-can c = choose-can c.new.ensures c.requires

pub position-requires-clause-fits : goal.position-requires-clause-fits
position-requires-clause-fits c = inl (search choose-fits)

pub returns : goal.returns
returns c = place-position c.args.asked _ (position_from_yields_List (λ x. eqb x c.args.asked) c.position.new.self _ c.position.result c.position.ensures.ran (YieldsList-from_first (λ x. x) distinct_left _ (choose-all c.new.ensures)) (λ x b q k. search (rules, tests)))
