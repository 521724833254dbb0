-- `map_code`: the tests that touch nothing, the map found and written, the rooms wiped. Assumes nothing.
use Rattle.answer.proofs.Mapping.{taken-lends, taken-small, taken-mode, mapped-early, mapped-run}
use Rattle.answer.proofs.Told.{run_holds, run-told}
use Rattle.answer.proofs.map.map_code.Goals as goal

pub returns-in-Err-clause-mapped : goal.returns-in-Err-clause-mapped
returns-in-Err-clause-mapped c = mapped-early _ _ _ _ _ _ c.early.ensures c.in-Err.is

pub find-finding-requires : goal.find-finding-requires
find-finding-requires c = taken-lends c.early.ensures c.in-Ok.is

pub put-answer-requires : goal.put-answer-requires
put-answer-requires c = run_holds c.find-finding.ensures.finds

pub returns-clause-mapped : goal.returns-clause-mapped
returns-clause-mapped c = let kept = c.find-finding.ensures.lent in
    mapped-run _ _ _ _ _ _ (taken-lends c.early.ensures c.in-Ok.is) (taken-small _ c.early.ensures c.in-Ok.is) (taken-mode _ c.early.ensures c.in-Ok.is)
    (run-told c.find-finding.ensures.finds c.put-answer.ensures) c.wipe_rooms.ensures.wiped kept.w.long kept.p.long kept.s.long kept.t.long kept.r.long kept.q.long
