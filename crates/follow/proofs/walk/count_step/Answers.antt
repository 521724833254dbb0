use Rattle.std.proofs.Common.{ap, ◌∙◌, Some}
use Rattle.follow.proofs.Following.{begin-fits, edge-fits, enter-fits, turn-no, turn-stays, turn-begins, turn-takes}
use Rattle.follow.proofs.walk.count_step.Goals as goal

pub bump-requires : goal.bump-requires
bump-requires c = let is = c.in_ok-taken.was ∙ ap Some c.in-Begins.is in let ready = c.requires.finds.ready in search begin-fits

pub bump-requires-in-Takes : goal.bump-requires-in-Takes
bump-requires-in-Takes c = let is = c.in_ok-taken.was ∙ ap Some c.in-Takes.is in let ready = c.requires.finds.ready in search edge-fits

pub bump-requires-in-Takes-2 : goal.bump-requires-in-Takes-2
bump-requires-in-Takes-2 c = let is = c.in_ok-taken.was ∙ ap Some c.in-Takes.is in let ready = c.requires.finds.ready in search enter-fits

pub returns-in_err-taken : goal.returns-in_err-taken
returns-in_err-taken c = rw c.from_residual.ensures (let none = c.in_err-taken.was in search turn-no)

pub returns-in-Stays : goal.returns-in-Stays
returns-in-Stays c = let is = c.in_ok-taken.was ∙ ap Some c.in-Stays.is in search turn-stays

pub returns-in-Begins : goal.returns-in-Begins
returns-in-Begins c = let is = c.in_ok-taken.was ∙ ap Some c.in-Begins.is in let ready = c.requires.finds.ready in search turn-begins

pub returns-in-Takes : goal.returns-in-Takes
returns-in-Takes c = let is = c.in_ok-taken.was ∙ ap Some c.in-Takes.is in let ready = c.requires.finds.ready in search turn-takes
