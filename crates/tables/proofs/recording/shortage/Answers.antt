-- `shortage`: one law for each room. Assumes nothing.
use Rattle.tables.proofs.Shorts.{short-r, short-q, short-s, short_none}
use Rattle.tables.proofs.recording.shortage.Goals as goal

pub returns-then-rooms-counts : goal.returns-then-rooms-counts
returns-then-rooms-counts c = search short-r

pub returns-then-rooms-counts-2 : goal.returns-then-rooms-counts-2
returns-then-rooms-counts-2 c = search short-q

pub returns-then-rooms-counts-3 : goal.returns-then-rooms-counts-3
returns-then-rooms-counts-3 c = search short-s

pub returns : goal.returns
returns c = search short_none
