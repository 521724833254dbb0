-- `add_path`: a length, and as many addresses. Assumes nothing.
use Rattle.theorems.proofs.Bytes.{Bytes}
use Rattle.entries.proofs.Paths.{path-put}
use Rattle.entries.proofs.row.add_path.Goals as goal

pub returns : goal.returns
returns c = let bytes : Bytes c.args.q.now = λ k. (c.type_inv.q k).fits in search path-put
