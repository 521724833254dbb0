-- `remember`: T is short, or a row more is remembered. Assumes nothing.
use Rattle.tables.proofs.Turns.{row-short, row-pushes, memorized}
use Rattle.tables.proofs.met.remember.Goals as goal

pub returns-then-rooms-counts : goal.returns-then-rooms-counts
returns-then-rooms-counts c = search row-short

pub push_row-requires : goal.push_row-requires
push_row-requires c = search row-pushes

pub returns : goal.returns
returns c = search memorized
