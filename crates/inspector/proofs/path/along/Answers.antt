-- `along` meets its contract: each way out is a law of its own. Assumes nothing.
use Rattle.inspector.proofs.Passing.{passed_start, passed-unsound, passed-tables, passed-between, passed-unjoined, joined-lent, passed-looks, passed_on, along-right, along-wrong}
use Rattle.inspector.proofs.path.along.Goals as goal

pub loop-place-init : goal.loop-place-init
loop-place-init c = passed_start (record { held = c.args.replay.held }) c.requires.tables c.requires.in_path c.requires.begins

pub returns-then-not-is_sound : goal.returns-then-not-is_sound
returns-then-not-is_sound c = search passed-unsound

pub joined-requires : goal.joined-requires
joined-requires c = record { tables = search passed-tables; between = search passed-between }

pub returns-then-not-joined : goal.returns-then-not-joined
returns-then-not-joined c = search passed-unjoined

pub looked-found-requires : goal.looked-found-requires
looked-found-requires c = record { lent = joined-lent c.joined.ensures; looks = passed-looks c.loop-place.invariant c.loop-place-test.true }

pub loop-place-preserved : goal.loop-place-preserved
loop-place-preserved c = search passed_on

pub returns-then-is_jumpdest : goal.returns-then-is_jumpdest
returns-then-is_jumpdest c = search along-right

pub returns : goal.returns
returns c = search along-wrong
