-- `hand_over`: an empty batch changes nothing, and any other is expanded. Assumes nothing.
use Rattle.resolver.proofs.BatchExpands.{hand-gathers, hand-none, hand-expands, hand-done}
use Rattle.resolver.proofs.settle.hand_over.Goals as goal

pub gather-batched-requires : goal.gather-batched-requires
gather-batched-requires c = search hand-gathers

pub returns-then-many-eq0 : goal.returns-then-many-eq0
returns-then-many-eq0 c = search hand-none

pub expand-requires : goal.expand-requires
expand-requires c = search hand-expands

pub returns : goal.returns
returns c = search hand-done
