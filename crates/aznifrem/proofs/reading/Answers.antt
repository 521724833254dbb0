-- `reading` meets its contract: a bad entry is the refusal with its offset. Assumes nothing.
use Rattle.std.proofs.lemmas.Result.{err_from_is_err_and}
use Rattle.aznifrem.proofs.ReadExports.{read-refused, read-whole}
use Rattle.aznifrem.proofs.reading.Goals as goal

pub returns-in_err-read : goal.returns-in_err-read
returns-in_err-read c =
    let p = err_from_is_err_and c.from_residual.result c.from_residual.ensures.1 in
    rw p.1 (search (c.in_err-read.was, p.2, read-refused))

pub returns : goal.returns
returns c = search (c.in_ok-read.was, read-whole)
