-- `wide_in` meets its contract: the two bytes are the code length, and fewer bytes have none. Assumes nothing.
use Rattle.reader.proofs.Sorting.{wide_short, wide-there}
use Rattle.reader.proofs.kind.wide_in.Goals as goal

pub returns-then-map-ge8 : goal.returns-then-map-ge8
returns-then-map-ge8 c = search wide-there

pub returns-else-map-ge8 : goal.returns-else-map-ge8
returns-else-map-ge8 c = wide_short c.args.map.now c.if-map-ge8.false (λ i. (c.type_inv.map i).fits)
