-- `find`: the stages, one after the other. Assumes nothing.
use mathlib.Core.Path.{refl}
use Rattle.answer.proofs.Running.{run-lends, run-starts, run-graphs, run-finds, run-short}
use Rattle.answer.proofs.Told.{short-some}
use Rattle.answer.proofs.find.find.Goals as goal

pub prepare-takers-requires : goal.prepare-takers-requires
prepare-takers-requires c = record { lent = search run-lends; lent_starts = search run-starts }

pub returns-in-Err-clause-finds : goal.returns-in-Err-clause-finds
returns-in-Err-clause-finds c =
    run-short c.requires c.initial_blocks-blocks.ensures c.runs_end-end.ensures _ c.prepare-takers.ensures c.in-Err.ensures.searched c.in-Err.ensures.lent.w.long
    (short-some _) _ _ _ _ refl

pub graph-flags-requires : goal.graph-flags-requires
graph-flags-requires c =
    run-graphs c.requires c.initial_blocks-blocks.ensures c.runs_end-end.ensures _ c.prepare-takers.ensures c.in-Ok.ensures.searched c.in-Ok.ensures.lent.w.long refl

pub returns-clause-finds : goal.returns-clause-finds
returns-clause-finds c =
    run-finds c.requires c.initial_blocks-blocks.ensures c.runs_end-end.ensures _ c.prepare-takers.ensures c.in-Ok.ensures.searched c.in-Ok.ensures.lent.w.long
    (λ _. c.graph-flags.ensures)
