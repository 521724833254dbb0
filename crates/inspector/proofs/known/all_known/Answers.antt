use mathlib.Core.Path.{◌∙◌}
use Rattle.inspector.proofs.Knowing.{knows_start, knows-unknown, knows-last, knows_on, knows-end}
use Rattle.inspector.proofs.known.all_known.Goals as goal

pub loop-instruction-init : goal.loop-instruction-init
loop-instruction-init c = knows_start (c.into_iter-instruction-iterator.ensures.into_iter_gives ∙ c.new-instruction-items.ensures)

pub returns-then-not-known : goal.returns-then-not-known
returns-then-not-known c = search knows-unknown

pub returns-then-last : goal.returns-then-last
returns-then-last c = search knows-last

pub loop-instruction-preserved : goal.loop-instruction-preserved
loop-instruction-preserved c = search knows_on

pub returns : goal.returns
returns c = search knows-end
