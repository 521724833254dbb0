use Rattle.std.proofs.Common.{rules, ◌∙◌}
use Rattle.follow.proofs.Placing.{choose-can}
use Rattle.follow.proofs.Edging.{link_start, link_on}
use Rattle.follow.proofs.edges.link.Goals as goal

pub loop-to-init : goal.loop-to-init
loop-to-init c = let new = c.into_iter-to-iterator.ensures.into_iter_gives ∙ c.new-to-items.ensures in (choose-can new c.requires.walking, tt, search link_start)

pub loop-to-preserved : goal.loop-to-preserved
loop-to-preserved c = let on = link_on c.loop-to.invariant.2 c.next.new.self c.in-Some.ensures.steps c.requires.owned c.keep.ensures in search (rules, on)
