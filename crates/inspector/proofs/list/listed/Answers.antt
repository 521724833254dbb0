-- `listed` meets its contract: each way out is a law of its own. Assumes nothing.
use borrow.Author.Rules.{rules}
use Rattle.inspector.proofs.Rowing.{listed-none, listed-full, listed-walking, listed-tables, listed-room, listed-all}
use Rattle.inspector.proofs.Seeking.{ready-walks}
use Rattle.inspector.proofs.list.listed.Goals as goal

pub entries-requires : goal.entries-requires
entries-requires c = record { walking = ready-walks (record { held = c.args.replay.held }); tables = search rules }

pub returns-in_default : goal.returns-in_default
returns-in_default c = search listed-none

pub returns-then-not-put_row : goal.returns-then-not-put_row
returns-then-not-put_row c = search listed-full

pub rest-requires : goal.rest-requires
rest-requires c = record { walking = search listed-walking; tables = search listed-tables; in_bounds = search listed-room }

pub returns : goal.returns
returns c = search listed-all
