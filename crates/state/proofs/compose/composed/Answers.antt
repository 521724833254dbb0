-- `composed` meets its contract. Assumes nothing.
use native.Mathlib.Omega.{arith}
use Rattle.state.proofs.Homes.{home-room, home-flat, home-deep}
use Rattle.state.proofs.compose.composed.Goals as goal

pub returns-then-lower-base : goal.returns-then-lower-base
returns-then-lower-base c = search home-flat

pub copy_from-requires : goal.copy_from-requires
copy_from-requires c = home-room c.requires c.base_at-base.ensures c.map.ensures c.if-lower-base.false

pub returns : goal.returns
returns c = search home-deep
