use Rattle.follow.proofs.Answering.{passed-on, follow-bad, follow-uneven, follow-walking, follow-answer, follow-short, follow-ready, follow-count, follow-room}
use Rattle.follow.proofs.call.follow.Goals as goal

pub returns-in_err-read : goal.returns-in_err-read
returns-in_err-read c = rw (passed-on c.from_residual.ensures) (let bad = c.in_err-read.was in search follow-bad)

pub returns-then-log-ne0 : goal.returns-then-log-ne0
returns-then-log-ne0 c = let ok = c.in_ok-read.was in search follow-uneven

pub room_for-requires : goal.room_for-requires
room_for-requires c = let ok = c.in_ok-read.was in search follow-walking

pub answer-requires-clause-ready : goal.answer-requires-clause-ready
answer-requires-clause-ready c = let read = c.in_ok-read.was in let ok = c.in_ok-slots.was in search follow-ready

pub answer-requires-clause-slots_value : goal.answer-requires-clause-slots_value
answer-requires-clause-slots_value c = let read = c.in_ok-read.was in let ok = c.in_ok-slots.was in search follow-count

pub answer-requires-clause-slots_in_bounds : goal.answer-requires-clause-slots_in_bounds
answer-requires-clause-slots_in_bounds c = let read = c.in_ok-read.was in let ok = c.in_ok-slots.was in search follow-room

pub returns-in_err-slots : goal.returns-in_err-slots
returns-in_err-slots c = rw (passed-on c.from_residual-in_err-slots.ensures) (let read = c.in_ok-read.was in let short = c.in_err-slots.was in search follow-short)

pub returns : goal.returns
returns c = let read = c.in_ok-read.was in let ok = c.in_ok-slots.was in search follow-answer
