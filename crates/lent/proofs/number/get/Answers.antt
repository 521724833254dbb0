-- `get`: the last bytes are read first. Assumes nothing.
use Rattle.std.proofs.Common.{rules}
use Prim.Native.Nat.{◌+◌, ◌-◌}
use Rattle.lent.proofs.Holds.{reading-none, reading-room, reading-more, read-whole}
use Rattle.lent.proofs.number.get.Goals as goal

pub loop-i-init : goal.loop-i-init
loop-i-init g c = search reading-none

pub overflow_mul-value : goal.overflow_mul-value
overflow_mul-value g c = let l = reading-room c.loop-i.invariant c.loop-i-test.true c.requires.0 in search rules

pub overflow_add-value-in-loop-i : goal.overflow_add-value-in-loop-i
overflow_add-value-in-loop-i g c =
    let l = reading-room c.loop-i.invariant c.loop-i-test.true c.requires.0 in
    let s = c.type_inv.bytes (c.args.at + (g.row.N - 1 - c.loop-i.i)) in
    search rules

pub loop-i-preserved : goal.loop-i-preserved
loop-i-preserved g c = search (reading-more, c.type_inv.bytes)

pub returns : goal.returns
returns g c = search read-whole
