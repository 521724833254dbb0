use Rattle.follow.proofs.Moving.{inside_past, inside-edge, inside-stays, inside-not}
use Rattle.follow.proofs.step.inside.Goals as goal

pub returns-then-code-pc : goal.returns-then-code-pc
returns-then-code-pc c = search inside_past

pub returns-then-pc-at : goal.returns-then-pc-at
returns-then-pc-at c = search inside-edge

pub returns-then-goes_on : goal.returns-then-goes_on
returns-then-goes_on c = search inside-stays

pub returns : goal.returns
returns c = search inside-not
