-- `bucket_of`: 32 bits, scaled down to the buckets, give one of them. Assumes nothing.
use Rattle.std.proofs.Common.{◌≤◌, arith}
use Rattle.tables.proofs.Sums.{scaled, is-bucket}
use Rattle.tables.proofs.record.bucket_of.Goals as goal

pub returns : goal.returns
returns c =
    let some : 1 ≤ c.min.result = omega (arith, c.min.ensures, c.requires) in
    (is-bucket c.args.buckets c.args.sum c.min.ensures, omega (arith, scaled c.args.sum some, c.min.ensures))
