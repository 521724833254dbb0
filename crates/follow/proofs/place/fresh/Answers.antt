use Rattle.std.proofs.Common.{rules, tests, eqb, not, ap, ◌∙◌}
use Rattle.std.proofs.lemmas.Iterator.{YieldsList-from_take}
use Rattle.std.proofs.lemmas.Iterator.Consumers.{YieldsList-from_first}
use Rattle.std.proofs.lemmas.Iterator.Search.{all_from_yields_List}
use Rattle.follow.specs.Blocks.{named_left}
use Rattle.follow.proofs.Placing.{all-not}
use Rattle.follow.proofs.place.fresh.Goals as goal

pub returns : goal.returns
returns c =
    all_from_yields_List (λ x. not (eqb x c.args.asked)) c.all.new.self _ c.all.result c.all.ensures.ran
    (YieldsList-from_take c.args.count (YieldsList-from_first (λ x. x) named_left _ (ap named_left c.take.ensures.source)) c.take.ensures.count) (λ x b q k. search (rules, tests))
    ∙ all-not c.args.asked _
