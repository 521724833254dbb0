use Rattle.follow.proofs.Moving.{step-stood, step-begins, step-inside}
use Rattle.follow.proofs.step.step.Goals as goal

pub inside-requires-clause-stood : goal.inside-requires-clause-stood
inside-requires-clause-stood c = search step-stood

pub returns-in-None : goal.returns-in-None
returns-in-None c = search step-begins

pub returns-in-Some : goal.returns-in-Some
returns-in-Some c = search step-inside
