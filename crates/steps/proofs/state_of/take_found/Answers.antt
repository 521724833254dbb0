-- `take_found`: the kept cells are found by the record, and the state in them is taken. Assumes nothing.
use Rattle.steps.proofs.Takes.{found_inside, found-rises, found-readable, found-short, found-composes, found-took}
use Rattle.steps.proofs.state_of.take_found.Goals as goal

pub overflow_sub-theirs : goal.overflow_sub-theirs
overflow_sub-theirs c = search found-rises

pub overflow_sub-from : goal.overflow_sub-from
overflow_sub-from c = let p = c.requires in
    found_inside p.composing p.le_at c.get32-kept.ensures

pub symbol_at-symbol-requires : goal.symbol_at-symbol-requires
symbol_at-symbol-requires c = let p = c.requires in
    found-readable p.composing p.le_at c.get32-kept.ensures c.kept_before.ensures

pub returns-then-room-counts : goal.returns-then-room-counts
returns-then-room-counts c = search found-short

pub compose_kept-made-requires : goal.compose_kept-made-requires
compose_kept-made-requires c = let p = c.requires in found-composes p.composing p.le_at c.get32-kept.ensures c.kept_before.ensures c.base_at.ensures c.composed_len-cells.ensures c.if-room-counts.false

pub returns : goal.returns
returns c = let p = c.requires in
    let a = c.get32-kept.ensures in
    let b = c.kept_before.ensures in
    search found-took
