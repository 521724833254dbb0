-- `mix`: a product that wraps, and a sum that wraps, as one remainder. Assumes nothing.
use Rattle.tables.proofs.Sums.{factored}
use Rattle.tables.proofs.sum.mix.Goals as goal

pub returns : goal.returns
returns g c = factored g.row.K c.args.sum c.args.number
