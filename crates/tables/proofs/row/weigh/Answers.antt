-- `weigh`: the number, and the tag a million times. Assumes nothing.
use Rattle.std.proofs.Common.{refl}
use Rattle.state.specs.Symbols.{sym_of}
use Rattle.tables.proofs.Sums.{weighing}
use Rattle.tables.proofs.row.weigh.Goals as goal

pub returns : goal.returns
returns c = weighing (sym_of c.args.symbol) c.parts-tag.ensures.1 c.low.ensures c.parts-tag.ensures.0 c.low-2.ensures refl
