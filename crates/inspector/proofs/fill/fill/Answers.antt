-- `fill` meets its contract: each way out is a law of its own. Assumes nothing.
use Rattle.inspector.proofs.FillLoop.{fill_start, fill-over, fill-in, fill-lent, fill-less, fill_on}
use Rattle.inspector.proofs.fill.fill.Goals as goal

pub loop-entry-init : goal.loop-entry-init
loop-entry-init c = fill_start (record { held = c.args.replay.held }) c.requires

pub note-requires : goal.note-requires
note-requires c = record { at_in_bounds = search fill-in; lent = search fill-lent }

pub loop-entry-smaller : goal.loop-entry-smaller
loop-entry-smaller c = search fill-less

pub loop-entry-preserved : goal.loop-entry-preserved
loop-entry-preserved c = search fill_on

pub returns : goal.returns
returns c = search fill-over
