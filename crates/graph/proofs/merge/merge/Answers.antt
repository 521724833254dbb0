-- `merge`: the blocks of the first i records are merged. Assumes nothing.
use borrow.Author.Rules.{rules}
use Prim.Native.Nat.{◌<◌}
use Rattle.graph.proofs.Merging.{merge-start, merge-room, merge_in, merge-start-of, merge-turn, merge-done}
use Rattle.graph.proofs.merge.merge.Goals as goal

pub loop-row-init : goal.loop-row-init
loop-row-init c = search merge-start

pub overflow_mul-row : goal.overflow_mul-row
overflow_mul-row c = let test : c.loop-row.row < c.args.records = search rules in
    let within = merge_in c.requires test in
    search rules

pub get16-start-requires : goal.get16-start-requires
get16-start-requires c = let test : c.loop-row.row < c.args.records = search rules in
    let within = merge_in c.requires test in
    search rules

pub merge_row-requires : goal.merge_row-requires
merge_row-requires c = record { room = search merge-room; start_le_size = search merge-start-of }

pub loop-row-preserved : goal.loop-row-preserved
loop-row-preserved c = search merge-turn

pub returns : goal.returns
returns c = search merge-done
