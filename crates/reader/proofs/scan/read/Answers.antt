-- `read` meets its contract: behind a head the rest decides; with any other first entry the offset is 0. Assumes nothing.
use Rattle.std.proofs.lemmas.Result.{err_from_is_err_and}
use Rattle.reader.proofs.Resting.{head-in, head-none, read-behind}
use Rattle.reader.proofs.scan.read.Goals as goal

pub returns-in_err-head : goal.returns-in_err-head
returns-in_err-head c =
    let p = err_from_is_err_and c.from_residual.result c.from_residual.ensures.1 in
    rw (p.1, p.2) (search (c.in_err-head.was, head-none))

pub rest-requires : goal.rest-requires
rest-requires c = search (c.in_ok-head.was, head-in)

pub returns : goal.returns
returns c = search (c.in_ok-head.was, read-behind)
