-- `to_end` meets its contract: what is left to run ends where the whole run does. Assumes nothing.
use mathlib.Core.Path.{refl, ◌∙◌}
use Rattle.exec.proofs.Owns.{running-start, running-steps, running-on, ended-none, ended-ends, ended-jumps}
use Rattle.exec.proofs.run.to_end.Goals as goal

pub loop-instruction-init : goal.loop-instruction-init
loop-instruction-init c = running-start c.requires (c.into_iter-instruction-iterator.ensures.into_iter_gives ∙ c.new-instruction-items.ensures) refl

pub step-requires : goal.step-requires
step-requires c = search running-steps

pub loop-instruction-preserved : goal.loop-instruction-preserved
loop-instruction-preserved c = search (running-on, c.type_inv.code)

pub returns-in-Ends : goal.returns-in-Ends
returns-in-Ends c = search (ended-ends, c.type_inv.code)

pub returns-in-Jumps : goal.returns-in-Jumps
returns-in-Jumps c = search (ended-jumps, c.type_inv.code)

pub returns : goal.returns
returns c = search ended-none
