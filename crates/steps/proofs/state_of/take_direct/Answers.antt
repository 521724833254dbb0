-- `take_direct`: the block's own state, which is held or run now, is taken. Assumes nothing.
use Rattle.steps.proofs.Takes.{direct-readable, direct-short, direct-composes, direct-took}
use Rattle.steps.proofs.state_of.take_direct.Goals as goal

pub symbol_at-symbol-requires : goal.symbol_at-symbol-requires
symbol_at-symbol-requires c = search direct-readable

pub returns-then-room-counts : goal.returns-then-room-counts
returns-then-room-counts c = search direct-short

pub compose_own-made-requires : goal.compose_own-made-requires
compose_own-made-requires c = let p = c.requires in
    direct-composes p.composing p.at_bound c.parent_start-start.ensures c.own_state-own.ensures c.base_at.ensures c.composed_len-cells.ensures c.if-room-counts.false

pub returns : goal.returns
returns c = let p = c.requires in
    direct-took p.composing p.at_bound c.parent_start-start.ensures c.own_state-own.ensures c.base_at.ensures c.composed_len-cells.ensures c.symbol_at-symbol.ensures
    c.if-room-counts.false c.compose_own-made.ensures
