-- `first_map` meets its contract: behind a head the entries decide; with any other first entry the offset is 0. Assumes nothing.
use Rattle.std.proofs.lemmas.Result.{err_from_is_err_and}
use Rattle.salvage.proofs.Firsts.{head-there, first-none}
use Rattle.salvage.proofs.first.first_map.Goals as goal

pub returns-in_err-head : goal.returns-in_err-head
returns-in_err-head c =
    let p = err_from_is_err_and c.from_residual.result c.from_residual.ensures.1 in
    rw (p.1, p.2) (search (c.in_err-head.was, first-none))

pub entries-requires : goal.entries-requires
entries-requires c = search (c.in_ok-head.was, head-there)
