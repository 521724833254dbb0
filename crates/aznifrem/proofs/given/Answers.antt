-- `given` gives the number, or the count. Assumes nothing.
use Rattle.aznifrem.proofs.Exports.{gives-count, gives-number}
use Rattle.aznifrem.proofs.given.Goals as goal

pub returns-in-Ok : goal.returns-in-Ok
returns-in-Ok c = search gives-count

pub returns-in-Err : goal.returns-in-Err
returns-in-Err c = search gives-number
