-- `way` meets its contract: the path is that of the body, and each way out is a law of the body. Assumes nothing.
use Rattle.std.proofs.lemmas.Result.{err_from_is_err_and}
use native.Mathlib.Omega.{arith}
use Rattle.reader.proofs.Bodies.{path-room, way-wrong, way-right}
use Rattle.reader.proofs.body.way.Goals as goal

pub returns-in_err-path : goal.returns-in_err-path
returns-in_err-path c =
    let p = err_from_is_err_and c.from_residual.result c.from_residual.ensures.1 in
    rw (p.1, p.2) (search (c.in_err-path.was, way-wrong))

pub get16-requires : goal.get16-requires
get16-requires c = omega (arith, path-room _ _ _ c.requires 2 c.path_of.ensures (c.in_ok-path.was {u = tt}))

pub returns : goal.returns
returns c = search (c.in_ok-path.was, way-right)
