-- `map_json`: the tests that touch nothing, the map found and written, the rooms wiped. Assumes nothing.
use Rattle.answer.proofs.Mapping.{taken-lends, taken-small, taken-mode, both-early, both_run}
use Rattle.answer.proofs.Told.{run_holds, both_told}
use Rattle.answer.proofs.both.map_json.Goals as goal

pub returns-in-Err-clause-mapped : goal.returns-in-Err-clause-mapped
returns-in-Err-clause-mapped c = both-early _ _ _ _ _ _ _ c.early.ensures c.in-Err.is

pub find-finding-requires : goal.find-finding-requires
find-finding-requires c = taken-lends c.early.ensures c.in-Ok.is

pub put_both-answer-requires : goal.put_both-answer-requires
put_both-answer-requires c = run_holds c.find-finding.ensures.finds

pub returns-clause-mapped : goal.returns-clause-mapped
returns-clause-mapped c = let kept = c.find-finding.ensures.lent in
    both_run _ _ _ _ _ _ _ (taken-lends c.early.ensures c.in-Ok.is) (taken-small _ c.early.ensures c.in-Ok.is) (taken-mode _ c.early.ensures c.in-Ok.is)
    (both_told c.find-finding.ensures.finds c.put_both-answer.ensures) c.wipe_rooms.ensures.wiped kept.w.long kept.p.long kept.s.long kept.t.long kept.r.long kept.q.long
