use Rattle.follow.proofs.Answering.{answer-is, answer-zeroed}
use Rattle.follow.proofs.call.answer.Goals as goal

pub walk-place-requires-clause-zeroed : goal.walk-place-requires-clause-zeroed
walk-place-requires-clause-zeroed c = search answer-zeroed

pub returns : goal.returns
returns c = search answer-is
