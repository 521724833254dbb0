-- `record` meets its contract: the path is that of the body, and each way out is a law of the body. Assumes nothing.
use Rattle.std.proofs.lemmas.Result.{err_from_is_err_and}
use native.Mathlib.Omega.{arith}
use Rattle.reader.proofs.Bodies.{path-room, record-wrong, record-right}
use Rattle.reader.proofs.body.record.Goals as goal

pub returns-in_err-path : goal.returns-in_err-path
returns-in_err-path c =
    let p = err_from_is_err_and c.from_residual.result c.from_residual.ensures.1 in
    rw (p.1, p.2) (search (c.in_err-path.was, record-wrong))

pub get16-start-requires : goal.get16-start-requires
get16-start-requires c = omega (arith, path-room _ _ _ c.requires 4 c.path_of.ensures (c.in_ok-path.was {u = tt}))

pub get16-requires : goal.get16-requires
get16-requires c = omega (arith, path-room _ _ _ c.requires 4 c.path_of.ensures (c.in_ok-path.was {u = tt}))

pub returns : goal.returns
returns c = search (c.in_ok-path.was, record-right)
